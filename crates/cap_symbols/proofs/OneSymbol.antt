-- What a text stands for.
use Rattle.std.proofs.Common.{◌≡◌, ℕ, zero, suc, ◌<◌, List, get_or, refl, ◌∙◌, arith}
use Rattle.std.specs.Prelude.{Contains}
use Rattle.cap_names.specs.Words.{marks}
use Rattle.cap_grammar.specs.declared.symbol.Fixed.{Fixed}
use Rattle.cap_grammar.specs.declared.symbol.Fixed.TheVariants as word
use Rattle.cap_grammar.specs.Texts.{fixed_text}

-- a mark is one of the fixed texts
mark_at : (k : ℕ) (d : List ℕ) → k < 13 → (w : Fixed) × (fixed_text w ≡ get_or marks k d)
mark_at zero d lt = (word.To, refl)
mark_at (suc zero) d lt = (word.Open, refl)
mark_at (suc (suc zero)) d lt = (word.Close, refl)
mark_at (suc (suc (suc zero))) d lt = (word.OpenRound, refl)
mark_at (suc (suc (suc (suc zero)))) d lt = (word.CloseRound, refl)
mark_at (suc (suc (suc (suc (suc zero))))) d lt = (word.OpenBrace, refl)
mark_at (suc (suc (suc (suc (suc (suc zero)))))) d lt = (word.CloseBrace, refl)
mark_at (suc (suc (suc (suc (suc (suc (suc zero))))))) d lt = (word.Semicolon, refl)
mark_at (suc (suc (suc (suc (suc (suc (suc (suc zero)))))))) d lt = (word.Equals, refl)
mark_at (suc (suc (suc (suc (suc (suc (suc (suc (suc zero))))))))) d lt = (word.Dot, refl)
mark_at (suc (suc (suc (suc (suc (suc (suc (suc (suc (suc zero)))))))))) d lt = (word.Star, refl)
mark_at (suc (suc (suc (suc (suc (suc (suc (suc (suc (suc (suc zero))))))))))) d lt = (word.Plus, refl)
mark_at (suc (suc (suc (suc (suc (suc (suc (suc (suc (suc (suc (suc zero)))))))))))) d lt = (word.Minus, refl)
mark_at (suc (suc (suc (suc (suc (suc (suc (suc (suc (suc (suc (suc (suc (k)))))))))))))) d lt = absurd (omega arith)

pub mark_is_fixed : (bs : List ℕ) → Contains marks bs → (w : Fixed) × (fixed_text w ≡ bs)
mark_is_fixed bs (k, lt, at) = let m = mark_at k bs lt in (m.0, m.1 ∙ at)
