-- What tests of boards need: a board that is ready for calls, and arguments that are its data.
use Rattle.std.specs.Prelude.{◌≡◌, ℕ, ◌<◌, List, Some, slice_get}
use Rattle.cap_ops.specs.declared.arrows.Arrow.{Arrow}
use Rattle.cap_ops.specs.declared.keys.Arg.{Arg}
use Rattle.cap_ops.specs.declared.keys.Arg.TheVariants.{Obj, Mor, Num}
use Rattle.cap_ops.specs.Primitives.{OfferData}
use Rattle.cap_terms.specs.declared.body.Rule.{Rule}
use Rattle.cap_board.specs.Call.{Ready}
use Rattle.cap_data.specs.declared.data.ObjData.{ObjData}
use Rattle.cap_data.specs.declared.data.MorData.{MorData}
use Rattle.cap_vec_offer.specs.Laws.{IsMatrixBetween}
use Rattle.cap_list_board.specs.Lists.{Lists, state_of}
use Rattle.cap_list_board.specs.Holds.{Holds}

-- the lists hold, and answer in this offer's category by these rules
pub record IsBench {X O M : Type 0} (offered : X → OfferData O M) (s : Lists X O M) (offer : X) (rules : List Rule) : Type 0 where
  pub holds : Holds (offered s.offer) s
  pub ready : Ready (state_of s) offer rules

-- a matrix between objects that were told
pub record IsArrowOf (objects : List ObjData) (p : ℕ) (f : Arrow MorData) : Type 0 where
  pub from : ObjData
  pub to : ObjData
  pub src : slice_get objects f.src.0 ≡ Some from
  pub tgt : slice_get objects f.tgt.0 ≡ Some to
  pub is : IsMatrixBetween p (record { src = from; tgt = to; value = f.value })

-- an object that was told, such a matrix, or a residue
abbrev pub IsArgumentOf : List ObjData → ℕ → Arg MorData → Type 0
IsArgumentOf objects p (Obj h) = (a : ObjData) × (slice_get objects h.0 ≡ Some a)
IsArgumentOf objects p (Mor f) = IsArrowOf objects p f
IsArgumentOf objects p (Num n) = n < p
