-- The table of a quiver from its paths, their numbers and the quotient.
use Rattle.std.proofs.Common.{◌≡◌, ℕ, ◌+◌, ◌-◌, ◌<◌, List, length, sym, subst, arith}
use Rattle.cap_laws.specs.Table.{TableData}
use Rattle.cap_quiver_laws.specs.Paths.{Path, IsQuiver, IsPathList, IsNumbering}
use Rattle.cap_quiver_laws.specs.Quotient.{PathNumbers}
use Rattle.cap_quiver_laws.specs.Ideal.{Relations, IsRelation}
use Rattle.cap_quiver_laws.specs.QuiverTable.{IsQuiverTable}
use Rattle.cap_quiver_paths.specs.declared.relation.Relation.{Relation}
use Rattle.cap_quiver_paths.specs.Data.{quiver}
use Rattle.cap_quiver_paths.specs.Relations.{relations_of}
use Rattle.cap_quiver_paths.specs.TermNumbers.{number_in, AreAllNumbersSoFar}
use Rattle.cap_quiver.specs.Limits.{FitsQuiver}
use Rattle.cap_quiver.specs.Rows.{AreArrowsOf, IsQuotientOf}
use Rattle.cap_quiver.specs.Answers.{IsFirstBad}

-- relations speak of the arrows alone
pub relation-anywhere : (o o' b b' : ℕ) (arrows : List (ℕ × ℕ)) (R : Relations) (r : ℕ) → IsRelation (quiver o arrows b) R r → IsRelation (quiver o' arrows b') R r
relation-anywhere o o' b b' arrows R r H = record {
  from = H.from;
  to = H.to;
  terms = λ k lt. let T = H.terms k lt in record { some = T.some; walk = T.walk; finish = T.finish };
}

pub fits-quiver : (p o : ℕ) (arrows : List (ℕ × ℕ)) (rs : List Relation) (b : ℕ) → FitsQuiver p o arrows rs b → IsQuiver (quiver o arrows b)
fits-quiver p o arrows rs b F = record { ends = F.ends; bound = F.low }

pub first-bad : (o b n : ℕ) (arrows : List (ℕ × ℕ)) (R : Relations) → n < R.count → ¬ IsRelation (quiver 0 arrows 0) R n → ((r : ℕ) → r < n → IsRelation (quiver 0 arrows 0) R r) → IsFirstBad (quiver o arrows b) R (n + 1)
first-bad o b n arrows R lt bad before =
    let e : n ≡ n + 1 - 1 = omega arith in
    record {
      low = omega arith;
      high = omega (arith, lt);
      bad = λ h. bad (subst (λ x. IsRelation (quiver 0 arrows 0) R x) (sym e) (relation-anywhere o 0 b 0 arrows R (n + 1 - 1) h));
      before = λ r lr. relation-anywhere 0 o 0 b arrows R r (before r (omega (arith, lr)));
    }

pub quiver-table : (p o b : ℕ) (arrows : List (ℕ × ℕ)) (rs : List Relation) (ps : List Path) (A : PathNumbers) (terms : List (List ℕ)) (bs : List ℕ) (T : TableData) (list : List (List ℕ))
    → IsPathList (quiver o arrows b) ps → ((r : ℕ) → r < length rs → IsRelation (quiver o arrows b) (relations_of rs) r) → IsNumbering (quiver o arrows b) ps A
    → AreAllNumbersSoFar (quiver 0 arrows b) ps (relations_of rs).terms terms (length rs) → IsQuotientOf p A (relations_of rs) (number_in terms) bs T → AreArrowsOf ps bs list (length bs)
    → IsQuiverTable p (quiver o arrows b) (relations_of rs) T list
quiver-table p o b arrows rs ps A terms bs T list L good N M H W = record {
  prime = H.prime;
  relations = good;
  paths = ps;
  all = L;
  numbers = A;
  numbered = N;
  term = number_in terms;
  terms = record { term = λ r k lr lk. (M.at r lr).at k lk };
  basis = bs;
  quotient = H.quotient;
  count = W.long;
  arrows = W.at;
}

-- the same from what was read of the parts
pub quiver-answer : {T : TableData} (p o b : ℕ) (one arrows : List (ℕ × ℕ)) (rs1 rs : List Relation) (ps : List Path) (A : PathNumbers) (terms1 terms : List (List ℕ)) (bs1 bs : List ℕ) (list1 list : List (List ℕ))
    → one ≡ arrows → rs1 ≡ rs → terms1 ≡ terms → bs1 ≡ bs → list ≡ list1
    → IsPathList (quiver o arrows b) ps → ((r : ℕ) → r < length rs → IsRelation (quiver o arrows b) (relations_of rs) r) → IsNumbering (quiver o one b) ps A
    → AreAllNumbersSoFar (quiver 0 one b) ps (relations_of rs1).terms terms (length rs1) → IsQuotientOf p A (relations_of rs1) (number_in terms1) bs T → AreArrowsOf ps bs1 list1 (length bs1)
    → IsQuiverTable p (quiver o arrows b) (relations_of rs) T list
quiver-answer {T} p o b one arrows rs1 rs ps A terms1 terms bs1 bs list1 list ea er et eb el L good N M H W =
    quiver-table p o b arrows rs ps A terms bs T list L good
    (subst (λ a. IsNumbering (quiver o a b) ps A) ea N)
    (subst (λ x. AreAllNumbersSoFar (quiver 0 arrows b) ps (relations_of x).terms terms (length x)) er (subst (λ a. AreAllNumbersSoFar (quiver 0 a b) ps (relations_of rs1).terms terms (length rs1)) ea M))
    (subst (λ x. IsQuotientOf p A (relations_of x) (number_in terms) bs T) er (subst (λ ts. IsQuotientOf p A (relations_of rs1) (number_in ts) bs T) et H))
    (subst (λ l. AreArrowsOf ps bs l (length bs)) (sym el) (subst (λ x. AreArrowsOf ps x list1 (length x)) eb W))
