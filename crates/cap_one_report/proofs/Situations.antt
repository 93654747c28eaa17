-- What stands before a command, but for sizes, determines all that commands read of it.
use Rattle.std.proofs.Common.{◌≡◌, ℕ, Bool, true, false, List, [], ◌∷◌, Option, Some, None, map, refl, ap, ◌∙◌, cond}
use Rattle.std.specs.Prelude.{find, not, option_map, option_and_then}
use Rattle.std.proofs.lemmas.List.{map-append}
use Rattle.cap_names.specs.declared.literals.MorLit.{MorLit}
use Rattle.cap_grammar.specs.declared.tree.ArgTok.{ArgTok}
use Rattle.cap_grammar.specs.declared.tree.ArgTok.TheVariants as argument
use Rattle.cap_grammar.specs.declared.tree.Command.{Command}
use Rattle.cap_grammar.specs.declared.tree.Command.TheVariants.{Register, Finalise, Plan, Object, Src, Tgt, Let, Call}
use Rattle.cap_grammar.specs.declared.tree.RefTok.{RefTok}
use Rattle.cap_block_faults.specs.Names.{same}
use Rattle.cap_checked.specs.declared.tree.CheckedObj.{CheckedObj}
use Rattle.cap_ops.specs.declared.keys.Arg.{Arg}
use Rattle.cap_ops.specs.declared.keys.Arg.TheVariants.{Obj, Mor, Num}
use Rattle.cap_report.specs.declared.lines.LineAnswer.{LineAnswer}
use Rattle.cap_report.specs.declared.lines.LineAnswer.TheVariants as line
use Rattle.cap_report.specs.declared.situation.Bound.{Bound}
use Rattle.cap_report.specs.declared.situation.Made.{Made}
use Rattle.cap_report.specs.declared.situation.Situation.{Situation}
use Rattle.cap_accounts.specs.Commands.{binds, answer_of, is_there, category_need, ref_need, argument_needs, needs, lacking, object_in, arrow_in, object_at, arrow_at, argument_or, IsArgument, AreArguments}
use Rattle.cap_accounts.specs.Accounts.{with_bound}
use Rattle.cap_one_report.specs.Sizes.{answer_without_size}

abbrev need : List ℕ → Bool → List ℕ × Bool
need name there = (name, there)

module _ {M : Type 0} where
  abbrev bound_of : List ℕ → LineAnswer M → Bound M
  bound_of name a = record { name = name; answer = a }

  abbrev pub bare_bound : Bound M → Bound M
  bare_bound b = record { name = b.name; answer = answer_without_size b.answer }

  find-bare : (name : List ℕ) (bs : List (Bound M)) → option_map (λ (b : Bound M). b.answer) (find (λ b. same b.name name) (map bare_bound bs)) ≡ option_map answer_without_size (option_map (λ (b : Bound M). b.answer) (find (λ b. same b.name name) bs))
  find-bare name [] = refl
  find-bare name (b ∷ bs) = go (find-bare name bs) (same b.name name)
    where
      go : option_map (λ (b : Bound M). b.answer) (find (λ b. same b.name name) (map bare_bound bs)) ≡ option_map answer_without_size (option_map (λ (b : Bound M). b.answer) (find (λ b. same b.name name) bs))
          → (t : Bool) → option_map (λ (b : Bound M). b.answer) (cond t (Some (bare_bound b)) (find (λ b. same b.name name) (map bare_bound bs)))
          ≡ option_map answer_without_size (option_map (λ (b : Bound M). b.answer) (cond t (Some b) (find (λ b. same b.name name) bs)))
      go more true = refl
      go more false = more

  binds-bare : (a : LineAnswer M) → binds (answer_without_size a) ≡ binds a
  binds-bare line.Category = refl
  binds-bare (line.Registered op weight) = refl
  binds-bare line.Final = refl
  binds-bare (line.Plan p) = refl
  binds-bare (line.Object h) = refl
  binds-bare (line.Morphism f) = refl
  binds-bare (line.Tuple fs) = refl
  binds-bare (line.Truth b) = refl
  binds-bare line.Nothing = refl
  binds-bare (line.Refused why) = refl

module _ {X T M : Type 0} where
  abbrev pub situation_of : List (List ℕ × T) → List (Made X) → List (Bound M) → Situation X T M
  situation_of tables categories bound = record { tables = tables; categories = categories; bound = bound }

  abbrev pub bare_situation : Situation X T M → Situation X T M
  bare_situation S = record { tables = S.tables; categories = S.categories; bound = map bare_bound S.bound }

  pub answer-bare : (S : Situation X T M) (name : List ℕ) → answer_of (bare_situation S) name ≡ option_map answer_without_size (answer_of S name)
  answer-bare S name = find-bare name S.bound

  object-in-bare : (S : Situation X T M) (a : LineAnswer M) → object_in S (answer_without_size a) ≡ object_in S a
  object-in-bare S line.Category = refl
  object-in-bare S (line.Registered op weight) = refl
  object-in-bare S line.Final = refl
  object-in-bare S (line.Plan p) = refl
  object-in-bare S (line.Object h) = refl
  object-in-bare S (line.Morphism f) = refl
  object-in-bare S (line.Tuple fs) = refl
  object-in-bare S (line.Truth b) = refl
  object-in-bare S line.Nothing = refl
  object-in-bare S (line.Refused why) = refl

  arrow-in-bare : (S : Situation X T M) (part : Option ℕ) (a : LineAnswer M) → arrow_in S part (answer_without_size a) ≡ arrow_in S part a
  arrow-in-bare S part line.Category = refl
  arrow-in-bare S part (line.Registered op weight) = refl
  arrow-in-bare S part line.Final = refl
  arrow-in-bare S part (line.Plan p) = refl
  arrow-in-bare S part (line.Object h) = refl
  arrow-in-bare S part (line.Morphism f) = refl
  arrow-in-bare S part (line.Tuple fs) = refl
  arrow-in-bare S part (line.Truth b) = refl
  arrow-in-bare S part line.Nothing = refl
  arrow-in-bare S None (line.Refused why) = refl
  arrow-in-bare S (Some n) (line.Refused why) = refl

  there-or : (S : Situation X T M) (a : Option (LineAnswer M)) → is_there S (option_map answer_without_size a) ≡ is_there S a
  there-or S None = refl
  there-or S (Some a) = binds-bare a

  object-or : (S : Situation X T M) (a : Option (LineAnswer M)) → option_and_then (object_in S) (option_map answer_without_size a) ≡ option_and_then (object_in S) a
  object-or S None = refl
  object-or S (Some a) = object-in-bare S a

  arrow-or : (S : Situation X T M) (part : Option ℕ) (a : Option (LineAnswer M)) → option_and_then (arrow_in S part) (option_map answer_without_size a) ≡ option_and_then (arrow_in S part) a
  arrow-or S part None = refl
  arrow-or S part (Some a) = arrow-in-bare S part a

  module _ (S : Situation X T M) where
    pub object-bare : (r : RefTok) → object_at (bare_situation S) r ≡ object_at S r
    object-bare r = ap (option_and_then (object_in S)) (answer-bare S r.name) ∙ object-or S (answer_of S r.name)

    pub arrow-bare : (r : RefTok) → arrow_at (bare_situation S) r ≡ arrow_at S r
    arrow-bare r = ap (option_and_then (arrow_in S r.part)) (answer-bare S r.name) ∙ arrow-or S r.part (answer_of S r.name)

    ref-need-bare : (r : RefTok) → ref_need (bare_situation S) r ≡ ref_need S r
    ref-need-bare r = ap (need r.name) (ap (is_there S) (answer-bare S r.name) ∙ there-or S (answer_of S r.name))

    argument-needs-bare : (args : List ArgTok) → argument_needs (bare_situation S) args ≡ argument_needs S args
    argument-needs-bare [] = refl
    argument-needs-bare (argument.Ref r ∷ args) = rw (ref-need-bare r, argument-needs-bare args) refl
    argument-needs-bare (argument.Int n ∷ args) = argument-needs-bare args

    needs-bare : (c : Command CheckedObj MorLit) → needs (bare_situation S) c ≡ needs S c
    needs-bare (Register cat op weight) = refl
    needs-bare (Finalise cat) = refl
    needs-bare (Plan cat) = refl
    needs-bare (Object cat x lit) = refl
    needs-bare (Src x r) = ap (λ n. n ∷ []) (ref-need-bare r)
    needs-bare (Tgt x r) = ap (λ n. n ∷ []) (ref-need-bare r)
    needs-bare (Let x cat src tgt lit) = rw (ref-need-bare src, ref-need-bare tgt) refl
    needs-bare (Call x cat op args) = ap (λ ns. category_need S cat ∷ ns) (argument-needs-bare args)

    pub lacking-bare : (c : Command CheckedObj MorLit) → lacking (bare_situation S) c ≡ lacking S c
    lacking-bare c = ap (λ ns. option_map (λ (n : List ℕ × Bool). n.0) (find (λ (n : List ℕ × Bool). not n.1) ns)) (needs-bare c)

    argument-of-bare : (p : ℕ) (t : ArgTok) (a : Arg M) → IsArgument S p t a → IsArgument (bare_situation S) p t a
    argument-of-bare p (argument.Ref r) a h = ap (λ o. argument_or S o (arrow_at (bare_situation S) r)) (object-bare r) ∙ (ap (argument_or S (object_at S r)) (arrow-bare r) ∙ h)
    argument-of-bare p (argument.Int n) (Num k) h = h
    argument-of-bare p (argument.Int n) (Obj k) h = absurd h
    argument-of-bare p (argument.Int n) (Mor k) h = absurd h

    pub arguments-bare : (p : ℕ) (ts : List ArgTok) (args : List (Arg M)) → AreArguments S p ts args → AreArguments (bare_situation S) p ts args
    arguments-bare p [] [] h = h
    arguments-bare p (t ∷ ts) (a ∷ args) h = (argument-of-bare p t a h.0, arguments-bare p ts args h.1)
    arguments-bare p [] (a ∷ args) h = absurd h
    arguments-bare p (t ∷ ts) [] h = absurd h

    pub bound-bare : (name : Option (List ℕ)) (a : LineAnswer M) → bare_situation (with_bound S name a) ≡ with_bound (bare_situation S) name (answer_without_size a)
    bound-bare None a = refl
    bound-bare (Some name) a = ap (situation_of S.tables S.categories) (map-append bare_bound S.bound (bound_of name a ∷ []))
