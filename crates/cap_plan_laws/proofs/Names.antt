-- A name of scripts is a name of certificates.
use Rattle.std.proofs.Common.{◌≡◌, ℕ, ◌+◌, ◌<◌, List, [], ◌∷◌, length, map, get_or, inl, inr, refl, sym, ◌∙◌, subst, arith}
use Rattle.std.specs.Prelude.{Contains}
use Rattle.std.proofs.lemmas.List.{get_or-map, length-map}
use Rattle.cap_names.proofs.OperationNames.{number_of_name}
use Rattle.cap_grammar.specs.declared.symbol.Fixed.{Fixed}
use Rattle.cap_grammar.specs.declared.symbol.Fixed.TheVariants as word
use Rattle.cap_grammar.specs.declared.symbol.Symbol.TheVariants as symbol
use Rattle.cap_grammar.specs.Texts.{fixed_text, IsSymbol}
use Rattle.cap_cert.specs.Reading.{script_words, IsNameText}

-- the reserved words in the order of certificates
abbrev reserved_words : List Fixed
reserved_words =
    word.Table ∷ word.Prime ∷ word.Objects ∷ word.Basis ∷ word.Unit ∷ word.Product ∷ word.End ∷
    word.Quiver ∷ word.Bound ∷ word.Arrow ∷ word.Relation ∷ word.Category ∷ word.Vec ∷ word.Add ∷
    word.Freyd ∷ word.Rep ∷ word.Session ∷ word.Register ∷ word.Finalise ∷ word.Plan ∷ word.Object ∷
    word.Let ∷ word.Src ∷ word.Tgt ∷ word.Dims ∷ word.Maps ∷ []

words_spelled : map fixed_text reserved_words ≡ script_words
words_spelled = refl

-- a text among those of some words is that of one
spelled : (ws : List Fixed) (text : List ℕ) → Contains (map fixed_text ws) text → (w : Fixed) × (fixed_text w ≡ text)
spelled ws text is =
    let long : length (map fixed_text ws) ≡ length ws = length-map ws fixed_text in
    let within : is.0 < length ws = omega (arith, is.1, long) in
    (get_or ws is.0 word.Table, sym (get_or-map fixed_text ws is.0 word.Table text within) ∙ is.2)

reserved : (text : List ℕ) → Contains script_words text → (w : Fixed) × (fixed_text w ≡ text)
reserved text is = spelled reserved_words text (subst (λ words. Contains words text) (sym words_spelled) is)

pub name_text : (name text : List ℕ) → IsSymbol text (symbol.Name name) → IsNameText name
name_text name text is =
    subst IsNameText (sym is.1)
    (record {
      word = is.0;
      free = λ among. is.2 (inl (reserved text among));
      no_operation = λ among. is.2 (inr (among.0 + 1, number_of_name text among));
    })
