-- Matrices and the literals of objects and morphisms are read as the grammar says.
use Rattle.std.proofs.Common.{◌≡◌, ℕ, List, [], ◌∷◌, ◌++◌, Bool, true, false, Option, Some, None, refl, sym, ap, ◌∙◌, subst, inl, inr, cond}
use Rattle.std.specs.Prelude.{◌⊎◌}
use Rattle.std.proofs.lemmas.List.{append-nil}
use Rattle.cap_reading.specs.Languages.{one, ◌·◌, made, just, maybe, each, some_of, separated}
use Rattle.cap_reading.specs.Steps.{skip, before, either, gives, some}
use Rattle.cap_reading.proofs.Law.{Law, Leads, Starts, Stops, never, one_of, law_as, law_goes, apart_sym, apart_never, cond_yes, stops_first, starts_apart, starts_more}
use Rattle.cap_reading.proofs.Items.{law_mapped}
use Rattle.cap_reading.proofs.Sequences.{law_then, law_both, law_mark, leads_before, leads_apart}
use Rattle.cap_reading.proofs.Choices.{law_optional, law_either, from_or, from_made, from_just, leads_made, leads_just, leads_or, apart_or}
use Rattle.cap_reading.proofs.Repetitions.{law_many, law_some, law_some_of, leads_some, after_separator}
use Rattle.cap_grammar.specs.declared.symbol.Fixed.TheVariants as word
use Rattle.cap_grammar.specs.declared.symbol.Symbol.{Symbol}
use Rattle.cap_grammar.specs.declared.symbol.Symbol.TheVariants as symbol
use Rattle.cap_grammar.specs.declared.tree.EntryTok.{EntryTok}
use Rattle.cap_grammar.specs.declared.tree.EntryTok.TheVariants as cell
use Rattle.cap_grammar.specs.declared.tree.RowsTok.{RowsTok}
use Rattle.cap_grammar.specs.declared.tree.ObjTok.{ObjTok}
use Rattle.cap_grammar.specs.declared.tree.ObjTok.TheVariants.{Dim, Parts, Relation, Dims}
use Rattle.cap_grammar.specs.declared.tree.MorTok.{MorTok}
use Rattle.cap_grammar.specs.declared.tree.MorTok.TheVariants as matrices
use Rattle.cap_grammar.specs.Grammar.{fixed, number, int, path, list, entry, row, inside, rows, map, object, morphism}
use Rattle.cap_literals.specs.Reading.{is, is_name, is_number, starts_int, starts_entry, ints_at, entry_at, row_at, next_row_at, new_rows, rows_at, map_at, maps_at, listed, listed_at, numbers_at, new_dims, dims_at, object_at, matrices_at, morphism_at}
use Rattle.cap_literals.proofs.Symbols.{apart, fixed_one, one_fixed, law_behind, law_up_to, leads_fixed, law_only, law_never, this_passes, fixed_begins, law_number, number_begins}
use Rattle.cap_literals.proofs.Parts.{next_passes, law_int, int_begins, law_list, list_begins, law_path, path_begins}

-- entry = int | "(" {int} ")"
pub law_ints : Law ints_at (each int) starts_int
unfolding ints_at
law_ints = law_only starts_int (law_many starts_int law_int int_begins (apart_never starts_int))

entry_from : (e : EntryTok) (l : List Symbol) → entry e l → made cell.Coeffs (λ is. fixed word.OpenRound · each int is · fixed word.CloseRound) e l ⊎ made cell.Int int e l
entry_from (cell.Int i) l h = inr (i, refl, h)
entry_from (cell.Coeffs is) l h = inl (is, refl, h)

pub law_entry : Law entry_at entry never
unfolding entry_at
law_entry =
    law_never
    (law_as entry (from_or entry (from_made entry (λ is l h. h)) (from_made entry (λ i l h. h))) entry_from
    (law_either (is word.OpenRound)
    (law_mapped cell.Coeffs (law_behind word.OpenRound (law_up_to word.CloseRound refl law_ints)))
    (law_mapped cell.Int law_int)
    starts_int
    (leads_made (is word.OpenRound) cell.Coeffs _ (leads_fixed word.OpenRound (λ is. each int is · fixed word.CloseRound)))
    (leads_made starts_int cell.Int int int_begins)
    (apart_sym (apart word.OpenRound starts_int refl))))

open_first : (l : List Symbol) → Starts (is word.OpenRound) l → Starts starts_entry l
open_first [] h = absurd h
open_first (t ∷ l) h = cond_yes (is word.OpenRound t) true (starts_int t) h

int_next : (l : List Symbol) → Starts starts_int l → Starts starts_entry l
int_next [] h = absurd h
int_next (t ∷ l) h = next_passes (is word.OpenRound t) (starts_int t) h

pub entry_begins : Leads starts_entry entry
entry_begins (cell.Int i) l h = int_next l (int_begins i l h)
entry_begins (cell.Coeffs is) l h = open_first l (fixed_begins word.OpenRound (each int is · fixed word.CloseRound) l h)

-- row = entry {entry}
pub law_row : Law row_at row starts_entry
unfolding row_at
law_row = law_only starts_entry (law_some_of starts_entry entry_begins (apart_never starts_entry) law_entry)

pub row_begins : Leads starts_entry row
row_begins = leads_some starts_entry entry entry entry_begins

pub law_next_row : Law next_row_at (λ r. fixed word.Semicolon · row r) starts_entry
unfolding next_row_at
law_next_row = law_behind word.Semicolon law_row

pub next_row_begins : Leads (is word.Semicolon) (λ r. fixed word.Semicolon · row r)
next_row_begins = leads_fixed word.Semicolon row

-- rows = "[" [ row { ";" row } ] "]"
abbrev filled : List (List EntryTok) → List Symbol → Type 0
filled rs = separated row (fixed word.Semicolon) rs

law_filled : Law (some row_at (is word.Semicolon) next_row_at) filled (one_of (is word.Semicolon) starts_entry)
law_filled = law_some (is word.Semicolon) law_row law_next_row next_row_begins (apart word.Semicolon starts_entry refl) (apart word.Semicolon starts_entry refl) (after_separator (is word.Semicolon) starts_entry)

empty_to : (l : List Symbol) → one (is word.Close) l → (inside [] · fixed word.Close) l
empty_to l h = record { front = []; rest = l; split = refl; first = refl; second = fixed_one word.Close l h }

filled_to : (rs : List (List EntryTok)) (l : List Symbol) → (filled rs · fixed word.Close) l → (inside rs · fixed word.Close) l
filled_to [] l h = absurd h.first
filled_to (r ∷ rs) l h = h

inside_from : (rs : List (List EntryTok)) (l : List Symbol) → (inside rs · fixed word.Close) l → just [] (one (is word.Close)) rs l ⊎ (filled rs · fixed word.Close) l
inside_from [] l h = inl (refl, one_fixed word.Close l (subst (fixed word.Close) (sym (h.split ∙ ap (λ k. k ++ h.rest) h.first)) h.second))
inside_from (r ∷ rs) l h = inr h

abbrev enclosed : List (List EntryTok) → List Symbol → Type 0
enclosed rs = inside rs · fixed word.Close

law_enclosed : Law (either (is word.Close) (skip (is word.Close) (gives [])) (before (some row_at (is word.Semicolon) next_row_at) (is word.Close))) enclosed never
law_enclosed =
    law_never
    (law_as enclosed (from_or enclosed (from_just enclosed empty_to) filled_to) inside_from
    (law_either (is word.Close)
    (law_mark (is word.Close) (symbol.Fixed word.Close) (this_passes word.Close) [])
    (law_up_to word.Close refl law_filled)
    starts_entry
    (leads_just (is word.Close) [] (one (is word.Close)) (λ l h. subst (Starts (is word.Close)) (sym h.1) h.2))
    (leads_before starts_entry filled (fixed word.Close) (leads_some starts_entry row (λ r. fixed word.Semicolon · row r) row_begins))
    (apart_sym (apart word.Close starts_entry refl))))

pub law_rows : Law rows_at rows never
unfolding rows_at
law_rows = law_as rows (from_made rows (λ rs l h. h)) (λ m l h. (m.rows, refl, h)) (law_mapped new_rows (law_behind word.Open law_enclosed))

pub rows_begins : Leads (is word.Open) rows
rows_begins m l h = fixed_begins word.Open (inside m.rows · fixed word.Close) l h

-- path "=" rows
pub law_map : Law map_at map never
unfolding map_at
law_map = law_both law_path (law_behind word.Equals law_rows) (λ m l rest h st. leads_apart (is word.Equals) (is word.Star) (λ m. fixed word.Equals · rows m) (apart word.Equals (is word.Star) refl) (leads_fixed word.Equals rows) m l rest h)

pub map_begins : Leads is_name map
map_begins m l h = leads_before is_name path (fixed word.Equals · rows m.1) path_begins m.0 l h

pub law_maps : Law maps_at (each map) is_name
unfolding maps_at
law_maps = law_only is_name (law_many is_name law_map map_begins (apart_never is_name))

-- list | list "->" list rows
listed_to : (x : List (List ℕ) × Option (List (List ℕ) × RowsTok)) (l : List Symbol) → (list x.0 · maybe (λ y. fixed word.To · list y.0 · rows y.1) x.1) l → object (listed x) l
listed_to (src, None) l h = subst (list src) (sym (h.split ∙ ap (λ k. h.front ++ k) h.second ∙ append-nil h.front)) h.first
listed_to (src, Some y) l h = h

abbrev listing : ObjTok → List Symbol → Type 0
listing o = made listed (λ x. list x.0 · maybe (λ y. fixed word.To · list y.0 · rows y.1) x.1) o

law_listed : Law listed_at listing (is word.To)
unfolding listed_at
law_listed = law_only (is word.To) (law_mapped listed (law_then law_list (law_optional (is word.To) (law_behind word.To (law_then law_list law_rows)) (leads_fixed word.To (λ y. list y.0 · rows y.1)))))

listing_begins : Leads (is word.Open) listing
listing_begins o l h = leads_before (is word.Open) list (maybe (λ y. fixed word.To · list y.0 · rows y.1) h.0.1) list_begins h.0.0 l h.2

-- "dims" NUM {NUM} [ "maps" { path "=" rows } ]
pub law_numbers : Law numbers_at (some_of number number) is_number
unfolding numbers_at
law_numbers = law_only is_number (law_some_of is_number number_begins (apart_never is_number) law_number)

-- What would lengthen such a literal: a number more, the word "maps", a map more.
abbrev pub dims_longer : Symbol → Bool
dims_longer = one_of is_number (one_of (is word.Maps) is_name)

second_fails : (n p : Bool) → cond n true p ≡ false → p ≡ false
second_fails true p h = cc
second_fails false p h = h

abbrev mapped_by : Option (List (List (List ℕ) × RowsTok)) → List Symbol → Type 0
mapped_by o = maybe (λ ms. fixed word.Maps · each map ms) o

maps_follow : (o : Option (List (List (List ℕ) × RowsTok))) (l rest : List Symbol) → mapped_by o l → Stops dims_longer rest → Stops is_number (l ++ rest)
maps_follow None l rest h st = subst (λ l. Stops is_number (l ++ rest)) (sym h) (stops_first is_number (one_of (is word.Maps) is_name) rest st)
maps_follow (Some ms) l rest h st = starts_apart (is word.Maps) is_number (apart word.Maps is_number refl) (l ++ rest) (starts_more (is word.Maps) l rest (fixed_begins word.Maps (each map ms) l h))

abbrev dims_text : ObjTok → List Symbol → Type 0
dims_text o = made new_dims (λ x. fixed word.Dims · some_of number number x.0 · mapped_by x.1) o

law_dims : Law dims_at dims_text dims_longer
unfolding dims_at
law_dims =
    law_mapped new_dims (law_behind word.Dims
    (law_both law_numbers
    (law_goes dims_longer (λ t h. second_fails (is_number t) (one_of (is word.Maps) is_name t) h)
    (law_optional (is word.Maps) (law_behind word.Maps law_maps) (leads_fixed word.Maps (each map))))
    maps_follow))

-- objlit
abbrev pub object_longer : Symbol → Bool
object_longer = one_of (is word.To) dims_longer

object_from : (o : ObjTok) (l : List Symbol) → object o l → made Dim number o l ⊎ (listing o l ⊎ dims_text o l)
object_from (Dim n) l h = inl (n, refl, h)
object_from (Parts names) l h = inr (inl ((names, None), refl, record { front = l; rest = []; split = sym (append-nil l); first = h; second = refl }))
object_from (Relation src tgt rho) l h = inr (inl ((src, Some (tgt, rho)), refl, h))
object_from (Dims dims maps) l h = inr (inr ((dims, maps), refl, h))

pub law_object : Law object_at object object_longer
unfolding object_at
law_object =
    law_as object (from_or object (from_made object (λ n l h. h)) (from_or object (from_made object listed_to) (from_made object (λ x l h. h)))) object_from
    (law_either is_number
    (law_mapped Dim law_number)
    (law_either (is word.Open) law_listed law_dims (is word.Dims) listing_begins (leads_made (is word.Dims) new_dims _ (leads_fixed word.Dims (λ x. some_of number number x.0 · mapped_by x.1))) (apart word.Dims (is word.Open) refl))
    (one_of (is word.Open) (is word.Dims))
    (leads_made is_number Dim number number_begins)
    (leads_or (is word.Open) (is word.Dims) listing dims_text listing_begins (leads_made (is word.Dims) new_dims _ (leads_fixed word.Dims (λ x. some_of number number x.0 · mapped_by x.1))))
    (apart_or (is word.Open) (is word.Dims) is_number (apart word.Open is_number refl) (apart word.Dims is_number refl)))

-- morlit = rows | "{" {rows} "}"
pub law_matrices : Law matrices_at (each rows) (is word.Open)
unfolding matrices_at
law_matrices = law_only (is word.Open) (law_many (is word.Open) law_rows rows_begins (apart_never (is word.Open)))

morphism_from : (m : MorTok) (l : List Symbol) → morphism m l → made matrices.Parts (λ ms. fixed word.OpenBrace · each rows ms · fixed word.CloseBrace) m l ⊎ made matrices.Rows rows m l
morphism_from (matrices.Rows m) l h = inr (m, refl, h)
morphism_from (matrices.Parts ms) l h = inl (ms, refl, h)

pub law_morphism : Law morphism_at morphism never
unfolding morphism_at
law_morphism =
    law_never
    (law_as morphism (from_or morphism (from_made morphism (λ ms l h. h)) (from_made morphism (λ m l h. h))) morphism_from
    (law_either (is word.OpenBrace)
    (law_mapped matrices.Parts (law_behind word.OpenBrace (law_up_to word.CloseBrace refl law_matrices)))
    (law_mapped matrices.Rows law_rows)
    (is word.Open)
    (leads_made (is word.OpenBrace) matrices.Parts _ (leads_fixed word.OpenBrace (λ ms. each rows ms · fixed word.CloseBrace)))
    (leads_made (is word.Open) matrices.Rows rows rows_begins)
    (apart word.Open (is word.OpenBrace) refl)))
