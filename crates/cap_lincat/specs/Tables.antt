-- The table that a valid table holds.
use Rattle.cap_laws.specs.Table.{TableData}
use Rattle.cap_lincat.specs.Data.{table_of}
use Rattle.cap_lincat.specs.declared.table.LinTable.{LinTable}

abbrev pub table_in : LinTable → TableData
table_in t = table_of t.field t.objects t.basis t.units t.rows
