-- Lists of table objects and the matrices between them are read as they were written.
use Rattle.std.proofs.Common.{◌≡◌, ℕ, List, refl, sym, ap, ◌∙◌}
use Rattle.cap_laws.specs.Table.{TableData}
use Rattle.cap_add_laws.specs.Closure.{MorphismMatrix, closure_data}
use Rattle.cap_alike.specs.Along.{IsReading}
use Rattle.cap_encoded.specs.OfClosures.{closure_reading}

-- a matrix is what its parts make
pub matrix-parts : (f : MorphismMatrix) (a b : List ℕ) → f.from ≡ a → f.to ≡ b → ◌≡◌ {A = MorphismMatrix} (record { from = a; to = b; entries = f.entries }) f
matrix-parts f a b s t =
    ap {B = MorphismMatrix} (λ x. record { from = x; to = b; entries = f.entries }) (sym s) ∙ ap {B = MorphismMatrix} (λ y. record { from = f.from; to = y; entries = f.entries }) (sym t)

pub closure_read : (T : TableData) → IsReading (closure_data T) closure_reading
closure_read T = record {
  object = λ x o. refl;
  arrow = λ a b g A B G. matrix-parts g _ _ G.from G.to;
}
