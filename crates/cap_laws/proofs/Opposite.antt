-- The exchange with the opposite category: the opposite of a linear, additive or abelian category is one.
use Rattle.cap_laws.specs.Linear.{CategoryData, IsLinear, Arrow, Same}
use Rattle.cap_laws.specs.Universal.{opposite, Some-arrow, IsInverse, IsIso, IsZeroObject, IsDirectSum, HasDirectSum, IsExact, IsAdditive, IsAbelian}
use Rattle.cap_laws.proofs.Calculus.{assoc, back}

pub turn : {Obj Mor : Type 0} {C : CategoryData Obj Mor} {a b : Obj} {f : Mor} → Arrow C a b f → Arrow (opposite C) b a f
turn p = record { is = p.is; from = p.to; to = p.from }

pub turned : {Obj Mor : Type 0} {C : CategoryData Obj Mor} {a b : Obj} {f : Mor} → Arrow (opposite C) b a f → Arrow C a b f
turned p = record { is = p.is; from = p.to; to = p.from }

pub turn-same : {Obj Mor : Type 0} {C : CategoryData Obj Mor} {a b : Obj} {f g : Mor} → Same C a b f g → Same (opposite C) b a f g
turn-same s = record { left = turn s.left; right = turn s.right; congruent = s.congruent }

pub turned-same : {Obj Mor : Type 0} {C : CategoryData Obj Mor} {a b : Obj} {f g : Mor} → Same (opposite C) b a f g → Same C a b f g
turned-same s = record { left = turned s.left; right = turned s.right; congruent = s.congruent }

pub opposite-linear : {Obj Mor : Type 0} {C : CategoryData Obj Mor} → IsLinear C → IsLinear (opposite C)
opposite-linear {Obj} {Mor} {C} L = record {
  prime_tabled = L.prime_tabled;
  source_object = L.target_object;
  target_object = L.source_object;
  identity_arrow = λ a o. turn (L.identity_arrow a o);
  compose_arrow = λ p q. turn (L.compose_arrow (turned q) (turned p));
  zero_arrow = λ a b o q. turn (L.zero_arrow b a q o);
  add_arrow = λ p q. turn (L.add_arrow (turned p) (turned q));
  scale_arrow = λ n p. turn (L.scale_arrow n (turned p));
  reflexive = λ p. L.reflexive (turned p);
  symmetric = λ s. L.symmetric (turned-same s);
  transitive = λ s t. L.transitive (turned-same s) (turned-same t);
  compose_congruent = λ s t. L.compose_congruent (turned-same t) (turned-same s);
  add_congruent = λ s t. L.add_congruent (turned-same s) (turned-same t);
  scale_congruent = λ n s. L.scale_congruent n (turned-same s);
  associative = λ p q r. (back L (assoc L (turned r) (turned q) (turned p))).congruent;
  unit_left = λ p. L.unit_right (turned p);
  unit_right = λ p. L.unit_left (turned p);
  add_associative = λ p q r. L.add_associative (turned p) (turned q) (turned r);
  add_commutative = λ p q. L.add_commutative (turned p) (turned q);
  add_zero = λ p. L.add_zero (turned p);
  scale_one = λ p. L.scale_one (turned p);
  scale_prime = λ p. L.scale_prime (turned p);
  scale_sum = λ m n p. L.scale_sum m n (turned p);
  scale_product = λ m n p. L.scale_product m n (turned p);
  scale_add = λ n p q. L.scale_add n (turned p) (turned q);
  compose_add = λ p q r. L.add_compose (turned q) (turned r) (turned p);
  add_compose = λ p q r. L.compose_add (turned r) (turned p) (turned q);
  compose_scale = λ n p q. L.scale_compose n (turned q) (turned p);
  scale_compose = λ n p q. L.compose_scale n (turned q) (turned p);
}

-- some arrow from x to k is one from k to x in the opposite category
pub turn-some : {Obj Mor : Type 0} {C : CategoryData Obj Mor} {x k : Obj} {P : Mor → Type 0} → Some-arrow C x k P → Some-arrow (opposite C) k x P
turn-some s = record { by = s.by; arrow = turn s.arrow; holds = s.holds }

-- isomorphisms, zero objects, direct sums and exactness are notions that turn into themselves
pub opposite-inverse : {Obj Mor : Type 0} {C : CategoryData Obj Mor} {a b : Obj} {f g : Mor} → IsInverse C a b f g → IsInverse (opposite C) b a f g
opposite-inverse h = record { arrow = turn h.arrow; left = turn-same h.right; right = turn-same h.left }

pub opposite-iso : {Obj Mor : Type 0} {C : CategoryData Obj Mor} {a b : Obj} {f : Mor} → IsIso C a b f → IsIso (opposite C) b a f
opposite-iso h = record { arrow = turn h.arrow; inverse = h.inverse; is = opposite-inverse h.is }

pub opposite-zero-object : {Obj Mor : Type 0} {C : CategoryData Obj Mor} {z : Obj} → IsZeroObject C z → IsZeroObject (opposite C) z
opposite-zero-object h = record { object = h.object; unit = turn-same h.unit }

pub opposite-direct-sum : {Obj Mor : Type 0} {C : CategoryData Obj Mor} {s a b : Obj} {i1 i2 p1 p2 : Mor} → IsDirectSum C s a b i1 i2 p1 p2 → IsDirectSum (opposite C) s a b p1 p2 i1 i2
opposite-direct-sum D = record {
  in1 = turn D.out1;
  in2 = turn D.out2;
  out1 = turn D.in1;
  out2 = turn D.in2;
  unit1 = turn-same D.unit1;
  unit2 = turn-same D.unit2;
  zero12 = turn-same D.zero21;
  zero21 = turn-same D.zero12;
  total = turn-same D.total;
}

pub opposite-exact : {Obj Mor : Type 0} {C : CategoryData Obj Mor} {a b c : Obj} {f g : Mor} → IsExact C a b c f g → IsExact (opposite C) c b a g f
opposite-exact E = record {
  first = turn E.second;
  second = turn E.first;
  zero = turn-same E.zero;
  middle = λ T S z w. turn-same (E.middle (turned S) (turned T) (turned-same w) (turned-same z));
}

has-opposite-direct-sum : {Obj Mor : Type 0} {C : CategoryData Obj Mor} {a b : Obj} → HasDirectSum C a b → HasDirectSum (opposite C) a b
has-opposite-direct-sum h = record { object = h.object; i1 = h.p1; i2 = h.p2; p1 = h.i1; p2 = h.i2; is = opposite-direct-sum h.is }

pub opposite-additive : {Obj Mor : Type 0} {C : CategoryData Obj Mor} → IsAdditive C → IsAdditive (opposite C)
opposite-additive A = record {
  zero_object = record { object = A.zero_object.object; is = opposite-zero-object A.zero_object.is };
  direct_sum = λ a b h k. has-opposite-direct-sum (A.direct_sum a b h k);
}

pub opposite-abelian : {Obj Mor : Type 0} {C : CategoryData Obj Mor} → IsAbelian C → IsAbelian (opposite C)
opposite-abelian A = record { additive = opposite-additive A.additive; kernels = A.cokernels; cokernels = A.kernels }
