-- What a command that comes to its seat has ready there: its literal has the form of the category's kind, its references are told objects, its call's arguments fit.
use Rattle.std.proofs.Common.{◌≡◌, ℕ, Bool, true, false, not, List, [], ◌∷◌, map, Option, Some, None, refl, sym, ap, ◌∙◌, subst, find, cond}
use Rattle.std.specs.Prelude.{IsSome, option_map}
use Rattle.std.specs.List.{All}
use Rattle.std.proofs.lemmas.List.Elements.{All-weaker}
use Rattle.cap_names.specs.declared.identifiers.Handle.{Handle}
use Rattle.cap_names.specs.declared.identifiers.OpId.{OpId}
use Rattle.cap_names.specs.declared.literals.EntryLit.{EntryLit}
use Rattle.cap_names.specs.declared.literals.EntryLit.TheVariants as entries
use Rattle.cap_names.specs.declared.literals.ObjLit.TheVariants as objects
use Rattle.cap_names.specs.declared.literals.MorLit.{MorLit}
use Rattle.cap_names.specs.declared.literals.MorLit.TheVariants as morphisms
use Rattle.cap_grammar.specs.declared.tree.ArgTok.{ArgTok}
use Rattle.cap_grammar.specs.declared.tree.Command.{Command}
use Rattle.cap_grammar.specs.declared.tree.Command.TheVariants as command
use Rattle.cap_grammar.specs.declared.tree.Over.{Over}
use Rattle.cap_grammar.specs.declared.tree.Over.TheVariants as over
use Rattle.cap_grammar.specs.declared.tree.RefTok.{RefTok}
use Rattle.cap_checked.specs.declared.tree.CheckedObj.{CheckedObj}
use Rattle.cap_checked.specs.declared.tree.CheckedObj.TheVariants as checked
use Rattle.cap_ops.specs.declared.keys.Arg.{Arg}
use Rattle.cap_ops.specs.Arrows.{arguments}
use Rattle.cap_ops.specs.Told.{Known}
use Rattle.cap_ops.specs.Ends.{operation_arguments}
use Rattle.cap_ops.specs.Primitives.{prime_of}
use Rattle.cap_ops.proofs.Places.{none≢some, some_inner}
use Rattle.cap_fitting.specs.Commands.{Scope, IsKnown, CommandFits}
use Rattle.cap_fitting.specs.Literals as fitting
use Rattle.cap_data.specs.declared.data.MorData.{MorData}
use Rattle.cap_data.specs.declared.data.ObjData.{ObjData}
use Rattle.cap_offer.specs.Labels.{Label, vec, any_offer}
use Rattle.cap_offer.specs.Literals as offer
use Rattle.cap_report.specs.declared.situation.Made.{Made}
use Rattle.cap_accounts.specs.Commands.{category_of, answer_of, is_there, is_made, argument_needs, object_at, AreArguments}
use Rattle.cap_seat.specs.Seats.{told_at}
use Rattle.cap_commands.specs.Kinds.{CategoryIs, HasForm}
use Rattle.cap_commands.specs.Agreement.{Standing, Telling, Agrees}
use Rattle.cap_commands.specs.Seats.{AtSeat}
use Rattle.cap_commands.specs.Doing.{IsAtSeat, AreCallable}
use Rattle.cap_commands.proofs.References.{ObjectNamed, object-named}
use Rattle.cap_commands.proofs.CallArguments.{IsLackingNone, all-given, have-values}

-- a dimension, and a matrix of integers, in a category of matrices
dimension-form : (p : ℕ) (lit : CheckedObj) → fitting.IsDimension lit → HasForm (vec p) lit
dimension-form p (checked.Lit (objects.Dim n)) d = tt
dimension-form p (checked.Lit (objects.Parts parts)) d = absurd d
dimension-form p (checked.Lit (objects.Relation src tgt rho)) d = absurd d
dimension-form p (checked.Lit (objects.Dims dims maps)) d = absurd d
dimension-form p (checked.Paths dims maps) d = absurd d

integer-form : (e : EntryLit) → fitting.IsInteger e → offer.IsInteger e
integer-form (entries.Int z) i = tt
integer-form (entries.Coeffs zs) i = absurd i

matrix-form : (p : ℕ) (lit : MorLit) → fitting.IsIntegerMatrix lit → offer.HasMorphismForm (vec p) lit
matrix-form p (morphisms.Rows m) i = All-weaker (λ row. All fitting.IsInteger row) (λ row. All offer.IsInteger row) (λ row each. All-weaker fitting.IsInteger offer.IsInteger integer-form row each) m.rows i
matrix-form p (morphisms.Parts ms) i = absurd i

-- of what is over a prime alone
over-prime : (o : Over) (x : Label) (P : Label → Type 0) → CategoryIs o None x → ((p : ℕ) → o ≡ over.Vec p → P (vec p)) → P x
over-prime (over.Vec p) x P c k = subst P (sym c) (k p refl)
over-prime (over.Add b) x P c k = absurd c
over-prime (over.Freyd b) x P c k = absurd c
over-prime (over.Rep b) x P c k = absurd c

-- each of two needs that nothing is lacking of
pub needs-both : (q : Bool) (x : List ℕ) (rest : Option (List ℕ × Bool)) → option_map (λ (need : List ℕ × Bool). need.0) (cond (not q) (Some (x, q)) rest) ≡ None → (q ≡ true) × (option_map (λ (need : List ℕ × Bool). need.0) rest ≡ None)
needs-both true x rest e = (refl, e)
needs-both false x rest e = absurd cc

none-found : (rest : Option (List ℕ × Bool)) → option_map (λ (need : List ℕ × Bool). need.0) rest ≡ None → rest ≡ None
none-found None e = refl
none-found (Some x) e = absurd cc

module _ (S : Standing) (made : Made Label) (s : AtSeat) where
  abbrev Comes : Command CheckedObj MorLit → Type 0
  Comes c = IsAtSeat S made s c

  -- the category of the command is over what its name says
  is-over : (scope : Scope) (telling : Telling) → Agrees scope S telling → (cat : List ℕ) → category_of S cat ≡ Some made → (known : IsKnown scope cat) → CategoryIs known.over None made.category
  is-over scope telling A cat is known =
      let M = A.made cat known.over known.known in
      let same : M.made ≡ made = some_inner (sym M.is ∙ is) in
      subst (λ (m : Made Label). CategoryIs known.over None m.category) same M.category

  pub object-ready : (cat name : List ℕ) (lit : CheckedObj) → Comes (command.Object cat name lit) → HasForm made.category lit
  object-ready cat name lit A =
      let is : category_of S cat ≡ Some made = subst (λ n. category_of S n ≡ Some made) (sym (some_inner A.named)) A.is in
      let known = A.fits.category in
      over-prime known.over made.category (λ x. HasForm x lit) (is-over A.scope A.telling A.agrees cat is known)
      (λ p e. dimension-form p lit (A.literal p (known.known ∙ ap Some e)))

  pub record IsReadyLet (src tgt : RefTok) (lit : MorLit) : Type 0 where
    pub source : (a : Handle) × (object_at S src ≡ Some a) × IsSome (told_at s a)
    pub target : (b : Handle) × (object_at S tgt ≡ Some b) × IsSome (told_at s b)
    pub form : offer.HasMorphismForm made.category lit

  told-here : (telling : Telling) → telling made.number.0 ≡ told_at s → (r : RefTok) → ObjectNamed S telling made r → (a : Handle) × (object_at S r ≡ Some a) × IsSome (told_at s a)
  told-here telling here r N = (N.h, N.is, subst (λ (told : Handle → Option ObjData). IsSome (told N.h)) here (subst (λ (o : Option ObjData). IsSome o) (sym N.told.stands) refl))

  pub let-ready : (cat name : List ℕ) (src tgt : RefTok) (lit : MorLit) → Comes (command.Let name cat src tgt lit) → IsReadyLet src tgt lit
  let-ready cat name src tgt lit A =
      let is : category_of S cat ≡ Some made = subst (λ n. category_of S n ≡ Some made) (sym (some_inner A.named)) A.is in
      let known = A.fits.category in
      let first = needs-both (is_made S (category_of S cat)) cat (cond (not (is_there S (answer_of S src.name))) (Some (src.name, is_there S (answer_of S src.name))) (cond (not (is_there S (answer_of S tgt.name))) (Some (tgt.name, is_there S (answer_of S tgt.name))) None)) A.lacks in
      let second = needs-both (is_there S (answer_of S src.name)) src.name (cond (not (is_there S (answer_of S tgt.name))) (Some (tgt.name, is_there S (answer_of S tgt.name))) None) first.1 in
      let third = needs-both (is_there S (answer_of S tgt.name)) tgt.name None second.1 in
      record {
        source = told-here A.telling A.here src (object-named S A.telling A.scope A.agrees cat made is src A.fits.source second.0);
        target = told-here A.telling A.here tgt (object-named S A.telling A.scope A.agrees cat made is tgt A.fits.target third.0);
        form = over-prime known.over made.category (λ x. offer.HasMorphismForm x lit) (is-over A.scope A.telling A.agrees cat is known) (λ p e. matrix-form p lit (A.literal p (known.known ∙ ap Some e)));
      }

  pub call-ready : (cat name : List ℕ) (op : OpId) (tokens : List ArgTok) → Comes (command.Call name cat op tokens) → AreCallable S made.category (told_at s) op.0 tokens
  call-ready cat name op tokens A =
      let is : category_of S cat ≡ Some made = subst (λ n. category_of S n ≡ Some made) (sym (some_inner A.named)) A.is in
      let first = needs-both (is_made S (category_of S cat)) cat (find (λ need. not need.1) (argument_needs S tokens)) A.lacks in
      let there : IsLackingNone S tokens = none-found (find (λ need. not need.1) (argument_needs S tokens)) first.1 in
      let given = λ (args : List (Arg MorData)) (are : AreArguments S (prime_of (any_offer made.category)) tokens args). all-given S A.telling A.scope A.agrees cat made is (operation_arguments op.0) tokens args A.fits.arguments there are in
      record {
        values = have-values S A.telling A.scope A.agrees cat made is (operation_arguments op.0) tokens A.fits.arguments there;
        sorts = λ args are. record { operation = A.fits.operation; sorts = (given args are).have_sorts };
        known = λ args are. subst (λ (told : Handle → Option ObjData). Known (any_offer made.category).category told (arguments args)) A.here (given args are).known;
      }

  -- a command of no category comes to no seat
  pub src-comes-not : (name : List ℕ) (of : RefTok) → Comes (command.Src name of) → ⊥
  src-comes-not name of A = absurd (none≢some A.named)

  pub tgt-comes-not : (name : List ℕ) (of : RefTok) → Comes (command.Tgt name of) → ⊥
  tgt-comes-not name of A = absurd (none≢some A.named)
