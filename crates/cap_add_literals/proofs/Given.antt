-- What literals of additive closures stand for are objects and morphisms of the offer.
use Rattle.std.proofs.Common.{◌≡◌, ℕ, ◌<◌, List, get_or, refl, sym, ◌∙◌, subst, inr}
use Rattle.std.specs.Prelude.{Result, Ok, Err, IfOk}
use Rattle.std.proofs.lemmas.List.Elements.{All-get_or}
use Rattle.cap_names.specs.declared.literals.ObjLit.{ObjLit}
use Rattle.cap_names.specs.declared.literals.ObjLit.TheVariants as literal
use Rattle.cap_names.specs.declared.literals.MorLit.{MorLit}
use Rattle.cap_names.specs.declared.literals.MorLit.TheVariants as morphisms
use Rattle.cap_laws.specs.Table.{TableData}
use Rattle.cap_add_laws.specs.Closure.{AreObjects}
use Rattle.cap_ops.specs.Told.{IsArrow}
use Rattle.cap_primitives.specs.Given.{from_to}
use Rattle.cap_data.specs.declared.data.ObjData.{ObjData}
use Rattle.cap_data.specs.declared.data.ObjData.TheVariants.{Parts}
use Rattle.cap_data.specs.declared.data.MorData.{MorData}
use Rattle.cap_encoded.specs.OfClosures.{read_list}
use Rattle.cap_add_offer.specs.Offer.{list_offer}
use Rattle.cap_add_offer.proofs.Data.{objects_are, morphisms_are}
use Rattle.cap_offer.specs.declared.faults.LitFault.{LitFault}
use Rattle.cap_offer.specs.Literals.{IsGiven, Gives}
use Rattle.cap_offer.specs.Laws.{ReadsOnce}
use Rattle.cap_add_literals.specs.Literals.{IsList, list_of, list_literal, entries_between}
use Rattle.cap_add_literals.specs.Laws.{ListLiteralsAreOne}
use Rattle.cap_add_literals.proofs.EntryLiterals.{entries-once, matrix-of-entries}

same-list : (a : ObjData) (parts : List ℕ) → a ≡ Parts parts → a ≡ Parts (read_list a)
same-list a parts e = subst (λ x. x ≡ Parts (read_list x)) (sym e) refl

list-of-objects : (T : TableData) (a : ObjData) (parts : List ℕ) → a ≡ Parts parts → AreObjects T parts → AreObjects T (read_list a)
list-of-objects T a parts e are = subst (λ x. AreObjects T (read_list x)) (sym e) are

-- an object is a list of objects of the table
pub table-objects : (T : TableData) (a : ObjData) → (list_offer T).category.is_object a → AreObjects T (read_list a)
table-objects T a o = let x = (objects_are T a).0 o in list-of-objects T a x.0 x.1 x.2

-- what a matrix of coefficients stands for is a morphism between its objects
literal-arrow : (T : TableData) (a b : ObjData) (lit : MorLit) (m : MorData) → (list_offer T).category.is_object a → (list_offer T).category.is_object b
    → IsGiven (entries_between T a b lit) m → IsArrow (list_offer T).category (from_to a b m)
literal-arrow T a b (morphisms.Rows w) m A B given =
    let from = (objects_are T a).0 A in
    let to = (objects_are T b).0 B in
    (morphisms_are T (from_to a b m)).1 (record {
      matrix = record { from = read_list a; to = read_list b; entries = given.reads.0 };
      src = same-list a from.0 from.1;
      tgt = same-list b to.0 to.1;
      value = given.reads.1;
      is = matrix-of-entries T (read_list a) (read_list b) w given.reads.0 (list-of-objects T a from.0 from.1 from.2) (list-of-objects T b to.0 to.1 to.2) given.reads.2 (λ part wrong. given.shape part (inr wrong));
    })
literal-arrow T a b (morphisms.Parts ws) m A B given = absurd given.reads

pub answer-arrow : (T : TableData) (a b : ObjData) (lit : MorLit) (r : Result MorData LitFault) → (list_offer T).category.is_object a → (list_offer T).category.is_object b
    → Gives (entries_between T a b lit) r → IfOk r (λ m. IsArrow (list_offer T).category (from_to a b m))
answer-arrow T a b lit (Ok m) A B given = literal-arrow T a b lit m A B given
answer-arrow T a b lit (Err e) A B given = tt

-- a list of objects of the table is an object
objects-of : (T : TableData) (lit : ObjLit) → IsList T.objects lit → AreObjects T (list_of lit)
objects-of T (literal.Parts parts) is = record { each = λ i lt. All-get_or (λ x. x < T.objects) parts i 0 lt is.1 }
objects-of T (literal.Dim n) is = absurd is
objects-of T (literal.Relation src tgt rho) is = absurd is
objects-of T (literal.Dims dims maps) is = absurd is

pub list-object : (T : TableData) (lit : ObjLit) (x : ObjData) → IsList T.objects lit → x ≡ Parts (list_of lit) → (list_offer T).category.is_object x
list-object T lit x is e = (objects_are T x).1 (list_of lit, e, objects-of T lit is)

between-once : (T : TableData) (a b : ObjData) (lit : MorLit) → ReadsOnce (entries_between T a b lit)
between-once T a b (morphisms.Rows m) = entries-once T (read_list a) (read_list b) m
between-once T a b (morphisms.Parts ms) = λ x y h k. absurd h

pub literals_are_one : ListLiteralsAreOne
literals_are_one = record { objects = λ parts x y h k. h ∙ sym k; morphisms = between-once }
