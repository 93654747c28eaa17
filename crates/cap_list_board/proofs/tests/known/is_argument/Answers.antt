use Rattle.std.proofs.Common.{sym, subst, arith, slice_index_or}
use Rattle.std.proofs.lemmas.Option.{slice_get-get_or}
use Rattle.std.proofs.lemmas.Bool.Decides.{nat_tests}
use Rattle.cap_data.specs.declared.data.ObjData.TheVariants.{Dim}
use Rattle.cap_list_board.specs.Benches.{IsArgumentOf}
use Rattle.cap_list_board.proofs.tests.known.is_argument.Goals as goal

pub returns-in-Obj : goal.returns-in-Obj
returns-in-Obj c = λ yes. subst (IsArgumentOf c.args.objects.now c.args.field) (sym c.in-Obj.is) (slice_index_or c.args.objects.now c.in-Obj.h.0 (Dim 0), slice_get-get_or c.args.objects.now c.in-Obj.h.0 (Dim 0) (grind (arith, nat_tests, yes)))
