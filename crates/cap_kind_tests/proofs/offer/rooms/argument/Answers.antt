use Rattle.std.proofs.Common.{rules, ◌<◌, arith}
use Rattle.cap_data.specs.declared.data.ObjData.TheVariants.{Dim}
use Rattle.cap_ops.specs.Primitives.{prime_of}
use Rattle.cap_ops.specs.Told.{IsArrow, told_in}
use Rattle.cap_primitives.specs.Given.{from_to}
use Rattle.cap_offer.specs.Labels.{any_offer}
use Rattle.cap_offer.proofs.Known.{object-known, arrow-known, residue-known}
use Rattle.cap_kind_tests.proofs.offer.rooms.argument.Goals as goal

pub returns-in-Object : goal.returns-in-Object
returns-in-Object g c = object-known c.args.room.now.cat c.args.room.now.objects (record { 0 = c.in-Object.h }) c.dimension.result c.dimension.ensures

pub returns-in-Matrix : goal.returns-in-Matrix
returns-in-Matrix g c =
    let rows = c.dimension-rows.result in
    let cols = c.dimension-cols.result in
    let is : IsArrow (any_offer c.args.room.now.cat).category (from_to (Dim rows) (Dim cols) c.expect-value.result) = search rules in
    arrow-known c.args.room.now.cat (told_in c.args.room.now.objects) (record { src = record { 0 = c.in-Matrix.src }; tgt = record { 0 = c.in-Matrix.tgt }; value = c.expect-value.result }) (Dim rows) (Dim cols) c.dimension-rows.ensures c.dimension-cols.ensures is

pub returns-else-n-prime : goal.returns-else-n-prime
returns-else-n-prime g c =
    let small : c.in-Residue.n < prime_of (any_offer c.args.room.now.cat) = grind (arith, c.prime.ensures.value, c.field-field.ensures) in
    residue-known c.args.room.now.cat (told_in c.args.room.now.objects) c.in-Residue.n small
