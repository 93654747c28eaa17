-- The steps of a loop over the symbols and places of a text.
use Rattle.std.proofs.Common.{◌≡◌, ℕ, ◌+◌, ◌<◌, ◌≤◌, List, [], ◌∷◌, ◌++◌, length, drop, get_or, Bool, true, false, sym, ap, ◌∙◌, append_assoc}
use Rattle.std.specs.Prelude.{◌&&◌}
use Rattle.std.proofs.lemmas.List.{drop_more, drop_all, append-nil}
use Rattle.cap_grammar.specs.declared.symbol.Fixed.TheVariants as word
use Rattle.cap_grammar.specs.declared.symbol.Symbol.{Symbol}
use Rattle.cap_grammar.specs.declared.symbol.Symbol.TheVariants as symbol
use Rattle.cap_grammar.specs.declared.tree.Place.{Place}
use Rattle.cap_grammar.specs.Scripts.{Mark, is_newline, without_empty_lines}
use Rattle.cap_lines.specs.Marks.{marks}
use Rattle.cap_lines.proofs.Cuts.{marks_append}
use Rattle.cap_lines.proofs.Kept.{newline, kept_stays, kept_dropped}

abbrev left : List Symbol → List Place → ℕ → List Mark → List Mark
left ss ps i tail = marks (drop i ss) (drop i ps) ++ tail

next : (ss : List Symbol) (ps : List Place) (i : ℕ) (s : Symbol) (p : Place) (tail : List Mark) → i < length ss → i < length ps → left ss ps i tail ≡ record { symbol = get_or ss i s; place = get_or ps i p } ∷ left ss ps (i + 1) tail
next ss ps i s p tail lt lt2 = λ k. marks (drop_more ss i s lt k) (drop_more ps i p lt2 k) ++ tail

-- a symbol that is kept
pub step_kept : (ks : List Symbol) (kp : List Place) (b c : Bool) (ss : List Symbol) (ps : List Place) (i : ℕ) (s : Symbol) (d : Place) (tail whole : List Mark)
    → i < length ss → i < length ps → s ≡ get_or ss i s → c ≡ is_newline s → (b && c) ≡ false → length ks ≡ length kp
    → marks ks kp ++ without_empty_lines b (left ss ps i tail) ≡ whole
    → marks (ks ++ s ∷ []) (kp ++ get_or ps i d ∷ []) ++ without_empty_lines c (left ss ps (i + 1) tail) ≡ whole
step_kept ks kp b c ss ps i s d tail whole lt lt2 es ec stays same h =
    let p : Place = get_or ps i d in
    let m : Mark = record { symbol = s; place = p } in
    let e : left ss ps i tail ≡ m ∷ left ss ps (i + 1) tail = next ss ps i s d tail lt lt2 ∙ (λ k. record { symbol = sym es k; place = p } ∷ left ss ps (i + 1) tail) in
    ap (λ l. l ++ without_empty_lines c (left ss ps (i + 1) tail)) (marks_append ks (s ∷ []) kp (p ∷ []) same)
    ∙ append_assoc (marks ks kp) (m ∷ []) (without_empty_lines c (left ss ps (i + 1) tail))
    ∙ ap (λ c. marks ks kp ++ m ∷ without_empty_lines c (left ss ps (i + 1) tail)) ec
    ∙ ap (λ l. marks ks kp ++ l) (sym (kept_stays b m (left ss ps (i + 1) tail) (ap (λ c. b && c) (sym ec) ∙ stays)))
    ∙ ap (λ l. marks ks kp ++ without_empty_lines b l) (sym e)
    ∙ h

-- an empty line
pub step_dropped : (front : List Mark) (b c : Bool) (ss : List Symbol) (ps : List Place) (i : ℕ) (s : Symbol) (p : Place) (tail whole : List Mark)
    → i < length ss → i < length ps → s ≡ get_or ss i s → c ≡ is_newline s → (b && c) ≡ true
    → front ++ without_empty_lines b (left ss ps i tail) ≡ whole
    → front ++ without_empty_lines c (left ss ps (i + 1) tail) ≡ whole
step_dropped front b c ss ps i s p tail whole lt lt2 es ec drops h =
    let m : Mark = record { symbol = get_or ss i s; place = get_or ps i p } in
    let ec2 : c ≡ is_newline (get_or ss i s) = ec ∙ ap is_newline es in
    ap (λ c. front ++ without_empty_lines c (left ss ps (i + 1) tail)) ec2
    ∙ ap (λ l. front ++ l) (sym (kept_dropped b m (left ss ps (i + 1) tail) (ap (λ c. b && c) (sym ec2) ∙ drops)))
    ∙ ap (λ l. front ++ without_empty_lines b l) (sym (next ss ps i s p tail lt lt2))
    ∙ h

none_left : (ss : List Symbol) (ps : List Place) (i : ℕ) (tail : List Mark) → length ss ≤ i → left ss ps i tail ≡ tail
none_left ss ps i tail le = ap (λ l. marks l (drop i ps) ++ tail) (drop_all i ss le)

-- the end, with an LF or without
pub end_kept : (ks : List Symbol) (kp : List Place) (b : Bool) (ss : List Symbol) (ps : List Place) (i : ℕ) (end : Place) (whole : List Mark)
    → length ss ≤ i → b ≡ false → length ks ≡ length kp
    → marks ks kp ++ without_empty_lines b (left ss ps i (newline end ∷ [])) ≡ whole
    → marks (ks ++ symbol.Fixed word.Newline ∷ []) (kp ++ end ∷ []) ≡ whole
end_kept ks kp b ss ps i end whole le stays same h =
    marks_append ks (symbol.Fixed word.Newline ∷ []) kp (end ∷ []) same
    ∙ ap (λ b. marks ks kp ++ without_empty_lines b (newline end ∷ [])) (sym stays)
    ∙ ap (λ l. marks ks kp ++ without_empty_lines b l) (sym (none_left ss ps i (newline end ∷ []) le))
    ∙ h

pub end_dropped : (front : List Mark) (b : Bool) (ss : List Symbol) (ps : List Place) (i : ℕ) (end : Place) (whole : List Mark)
    → length ss ≤ i → b ≡ true
    → front ++ without_empty_lines b (left ss ps i (newline end ∷ [])) ≡ whole
    → front ≡ whole
end_dropped front b ss ps i end whole le drops h =
    sym (append-nil front)
    ∙ ap (λ b. front ++ without_empty_lines b (newline end ∷ [])) (sym drops)
    ∙ ap (λ l. front ++ without_empty_lines b l) (sym (none_left ss ps i (newline end ∷ []) le))
    ∙ h
