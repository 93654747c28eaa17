-- The residues of a literal's coefficients are the entries of the matrix of combinations that it stands for.
use Rattle.std.proofs.Common.{◌≡◌, ◌≢◌, ◌⊎◌, ℕ, suc, ◌+◌, ◌*◌, ◌/◌, ◌%◌, ◌<◌, ◌≤◌, ℤ, pos, List, [], length, map, get_or, refl, sym, ap, ◌∙◌, subst, arith, inl, inr, ⊎_elim}
use Rattle.std.specs.Prelude.{Some}
use Rattle.std.specs.List.{All}
use Rattle.std.proofs.lemmas.Bool.{cases_eq}
use Rattle.std.proofs.lemmas.Nat.{div_below, mod_below, mul-add-lt}
use Rattle.std.proofs.Math.Nat.{div-add-mod'}
use Rattle.std.proofs.lemmas.List.{length-map, get_or-map, ext_get_or}
use Rattle.std.proofs.lemmas.List.Elements.{All-get_or}
use Rattle.std.proofs.lemmas.Option.{slice_get-get_or}
use Rattle.cap_field.specs.Residue.{IsResidueOf}
use Rattle.cap_field.proofs.Fermat.{tabled_range}
use Rattle.cap_field.proofs.Remainders.{residue_is, residue_unique}
use Rattle.cap_matrix.proofs.Writes.{some_below}
use Rattle.cap_homlaw.proofs.Rows.{row_ext}
use Rattle.cap_ops.proofs.DerivationsBounds.{lt_or_le}
use Rattle.cap_names.specs.declared.literals.EntryLit.{EntryLit}
use Rattle.cap_names.specs.declared.literals.EntryLit.TheVariants.{Int, Coeffs}
use Rattle.cap_names.specs.declared.literals.MatLit.{MatLit}
use Rattle.cap_laws.specs.Answers.{Size, Fits}
use Rattle.cap_laws.specs.Table.{TableData, width_of}
use Rattle.cap_data.specs.declared.data.MorData.TheVariants.{Entries}
use Rattle.cap_lincat.specs.declared.table.LinTable.{LinTable}
use Rattle.cap_add_laws.specs.Closure.{AreObjects, IsMorphismMatrix, widths_of}
use Rattle.cap_add_laws.proofs.Structure.{width-at}
use Rattle.cap_addclosure.proofs.OneElement.{width-of-place}
use Rattle.cap_addclosure.specs.Shapes.{HasWidth, HasWidths, IsFirstWrong}
use Rattle.cap_addclosure.specs.Sizes.{closure_size}
use Rattle.cap_offer.proofs.Cells.{length-mapped, mapped-at, no-places, no-place}
use Rattle.cap_add_literals.specs.Combinations.{residue_in, residues_of_entry, lists_of}
use Rattle.cap_offer.specs.Literals.{HasSize, IsLeast, IsGiven}
use Rattle.cap_add_literals.specs.Literals.{IsCoefficients, HasCoefficients, StandAt, IsWrongEntry, AreResiduesOf, AreResiduesAt, AreEntriesOfLiteral, entries_literal}
use Rattle.cap_offer.specs.Laws.{ReadsOnce}

-- an entry that is coefficients
pub record AreCoefficients (p : ℕ) (e : EntryLit) : Type 0 where
  pub coefficients : List ℤ
  pub same : e ≡ Coeffs coefficients
  pub residues : AreResiduesOf p coefficients (residues_of_entry p e)

pub coefficients-of : (p : ℕ) (e : EntryLit) → 0 < p → IsCoefficients e → AreCoefficients p e
coefficients-of p (Int n) some is = absurd is
coefficients-of p (Coeffs cs) some is = record {
  coefficients = cs;
  same = refl;
  residues = record {
    many = length-map cs (residue_in p);
    each = λ k lt. subst (IsResidueOf p (get_or cs k (pos 0))) (sym (get_or-map (residue_in p) cs k (pos 0) 0 lt)) (residue_is p (get_or cs k (pos 0)) some);
  };
}

module _ (p columns : ℕ) (m : MatLit) (some : 0 < p) (are : HasCoefficients m) where
  -- where the rows have this length
  entry-at : All (λ row. length row ≡ columns) m.rows → (i j : ℕ) → i < length m.rows → j < columns → AreResiduesAt p m i j (get_or (lists_of p m.rows) (i * columns + j) [])
  entry-at each i j row column =
      let wide : length (get_or m.rows i []) ≡ columns = All-get_or (λ row. length row ≡ columns) m.rows i [] row each in
      let inside : j < length (get_or m.rows i []) = subst (λ n. j < n) (sym wide) column in
      let whole : All IsCoefficients (get_or m.rows i []) = All-get_or (λ row. All IsCoefficients row) m.rows i [] row are in
      let d : EntryLit = Coeffs [] in
      let e = coefficients-of p (get_or (get_or m.rows i []) j d) some (All-get_or IsCoefficients (get_or m.rows i []) j d inside whole) in
      record {
        coefficients = e.coefficients;
        stand = slice_get-get_or (get_or m.rows i []) j d inside ∙ ap (λ x. Some x) e.same;
        are = subst (AreResiduesOf p e.coefficients) (sym (mapped-at (residues_of_entry p) [] columns m.rows i j d each row column)) e.residues;
      }

  -- a literal of the right size has them
  pub are_entries : (rows : ℕ) → HasSize rows columns m → AreEntriesOfLiteral p rows columns m (lists_of p m.rows)
  are_entries rows (inl h) = record {
    many = length-mapped (residues_of_entry p) columns m.rows h.1 ∙ ap (λ n. n * columns) h.0;
    each = λ i j row column. entry-at h.1 i j (subst (λ n. i < n) (sym h.0) row) column;
  }
  are_entries rows (inr h) = record {
    many = ap (λ xs. length (lists_of p xs)) h.0 ∙ sym (no-places rows columns h.1);
    each = λ i j row column. absurd (no-place rows columns i j h.1 row column);
  }

-- a place in a row stands before the end of all rows
place-inside : (i j rows columns : ℕ) → i < rows → j < columns → i * columns + j < rows * columns
place-inside i j rows columns row column = omega (arith, mul-add-lt i columns j rows row column)

-- the coefficients at a place are one list
same-coefficients : (m : MatLit) (i j : ℕ) (cs ds : List ℤ) → StandAt m i j cs → StandAt m i j ds → cs ≡ ds
same-coefficients m i j cs ds h k = cc

module _ (T : TableData) (xs ys : List ℕ) (m : MatLit) (entries : List (List ℕ)) (A : AreEntriesOfLiteral T.prime (length xs) (length ys) m entries) where
  -- an entry whose residues have the width of its Hom has as many coefficients
  right-width : (i j : ℕ) → i < length xs → j < length ys → HasWidth T xs ys entries (i * length ys + j) → (cs : List ℤ) → StandAt m i j cs → length cs ≡ width_of T (get_or xs i 0) (get_or ys j 0)
  right-width i j row column h cs stand =
      let at = A.each i j row column in
      ap (λ (z : List ℤ). length z) (same-coefficients m i j cs at.coefficients stand at.stand) ∙ sym at.are.many ∙ h ∙ width-of-place T xs ys i j row column

  pub no-wrong : HasWidths T xs ys entries (length entries) → (part : ℕ) → IsWrongEntry T xs ys m part → ⊥
  no-wrong widths part w =
      let inside : w.row * length ys + w.column < length entries = subst (λ n. w.row * length ys + w.column < n) (sym A.many) (place-inside w.row w.column (length xs) (length ys) w.above w.beside) in
      w.wrong (right-width w.row w.column w.above w.beside (widths (w.row * length ys + w.column) inside) w.coefficients w.stand)

  -- the first entry with another number of residues is the least wrong part
  pub least-wrong : HasSize (length xs) (length ys) m → (k : ℕ) → IsFirstWrong T xs ys entries k → IsLeast (entries_literal T xs ys m).wrong (suc k)
  least-wrong size k first =
      let n = length ys in
      let inside : k < length xs * n = subst (λ q. k < q) A.many first.inside in
      let some : 0 < n = some_below k (length xs) n inside in
      let row : k / n < length xs = div_below k n (length xs) some inside in
      let column : k % n < n = mod_below k n some in
      let at = A.each (k / n) (k % n) row column in
      let place : k / n * n + k % n ≡ k = div-add-mod' k n in
      record {
        is = inr (record {
          row = k / n;
          column = k % n;
          above = row;
          beside = column;
          number = ap (λ q. suc q) (sym place);
          coefficients = at.coefficients;
          stand = at.stand;
          wrong = λ e. first.wrong (
              ap (λ q. length (get_or entries q [])) (sym place) ∙ at.are.many ∙ e ∙ sym (width-at T xs ys k inside));
        });
        least = λ q w. at-least k first.before q w;
      }
    where
      at-least : (k : ℕ) → HasWidths T xs ys entries k → (q : ℕ) → (entries_literal T xs ys m).wrong q → suc k ≤ q
      at-least k before q (inl w) = absurd (w.1 size)
      at-least k before q (inr w) = ⊎_elim
          (λ (lt : w.row * length ys + w.column < k). absurd (w.wrong (right-width w.row w.column w.above w.beside (before (w.row * length ys + w.column) lt) w.coefficients w.stand)))
          (λ (ge : k ≤ w.row * length ys + w.column). let e = w.number in omega (arith, ge, e))
          (lt_or_le (w.row * length ys + w.column) k)

  -- within the limits the entries are what the literal stands for
  pub given-entries : HasSize (length xs) (length ys) m → HasWidths T xs ys entries (length entries) → ((s : Size) → s ≡ closure_size T xs ys → Fits s) → IsGiven (entries_literal T xs ys m) (Entries entries)
  given-entries size widths fits = record {
    shape = λ part wrong. elim wrong [ inl w ↦ w.1 size | inr w ↦ no-wrong widths part w ];
    within = fits;
    lawful = λ law broken. absurd broken;
    reads = (entries, refl, A);
  }

-- the entries that a literal stands for are one list
one-list : (p : ℕ) (cs ds : List ℤ) (xs ys : List ℕ) → cs ≡ ds → AreResiduesOf p cs xs → AreResiduesOf p ds ys → xs ≡ ys
one-list p cs ds xs ys e X Y =
    let X' : AreResiduesOf p ds xs = subst (λ zs. AreResiduesOf p zs xs) e X in
    row_ext X'.many Y.many (λ k lt. residue_unique p (get_or ds k (pos 0)) (get_or xs k 0) (get_or ys k 0) (X'.each k lt) (Y.each k lt))

pub entries-once : (T : TableData) (xs ys : List ℕ) (m : MatLit) → ReadsOnce (entries_literal T xs ys m)
entries-once T xs ys m x y h k = h.1 ∙ ap (λ es. Entries es) (same h.0 k.0 h.2 k.2) ∙ sym k.1
  where
    same : (es fs : List (List ℕ)) → AreEntriesOfLiteral T.prime (length xs) (length ys) m es → AreEntriesOfLiteral T.prime (length xs) (length ys) m fs → es ≡ fs
    same es fs A B = ext_get_or [] es fs (A.many ∙ sym B.many) (λ k inside.
        let n = length ys in
        let lt : k < length xs * n = subst (λ q. k < q) A.many inside in
        let some : 0 < n = some_below k (length xs) n lt in
        let row : k / n < length xs = div_below k n (length xs) some lt in
        let column : k % n < n = mod_below k n some in
        let place : k / n * n + k % n ≡ k = div-add-mod' k n in
        let a = A.each (k / n) (k % n) row column in
        let b = B.each (k / n) (k % n) row column in
        ap (λ q. get_or es q []) (sym place) ∙ one-list T.prime a.coefficients b.coefficients _ _ (same-coefficients m (k / n) (k % n) a.coefficients b.coefficients a.stand b.stand) a.are b.are ∙ ap (λ q. get_or fs q []) place)

-- and, none of them being wrong, those of a matrix of combinations
pub matrix-of-entries : (T : TableData) (xs ys : List ℕ) (m : MatLit) (entries : List (List ℕ)) → AreObjects T xs → AreObjects T ys → AreEntriesOfLiteral T.prime (length xs) (length ys) m entries
    → ((part : ℕ) → IsWrongEntry T xs ys m part → ⊥) → IsMorphismMatrix T (record { from = xs; to = ys; entries = entries })
matrix-of-entries T xs ys m entries X Y A right = record {
  from = X;
  to = Y;
  many = A.many;
  rows = λ i j row column.
      let at = A.each i j row column in
      record {
        long = at.are.many ∙ width i j row column at.coefficients at.stand;
        residues = λ c lt. (at.are.each c (subst (λ n. c < n) at.are.many lt)).below;
      };
}
  where
    width : (i j : ℕ) → i < length xs → j < length ys → (cs : List ℤ) → StandAt m i j cs → length cs ≡ width_of T (get_or xs i 0) (get_or ys j 0)
    width i j row column cs stand = ⊎_elim
        (λ (e : length cs ≡ width_of T (get_or xs i 0) (get_or ys j 0)). e)
        (λ ne. absurd (right (suc (i * length ys + j)) (record { row = i; column = j; above = row; beside = column; number = refl; coefficients = cs; stand = stand; wrong = ne })))
        (cases_eq (length cs) (width_of T (get_or xs i 0) (get_or ys j 0)))

-- a valid table is over some prime
pub table-some : (t : LinTable) → 0 < t.field
table-some t = let r = tabled_range t.field t.valid.linear.prime_tabled in let low = r.0 in omega (arith, low)

-- what has been read row after row is what stands in the literal
pub read-lists : (p rows columns : ℕ) (m : MatLit) (held : List (List ℕ)) → 0 < p → HasCoefficients m → HasSize rows columns m → held ≡ lists_of p m.rows → AreEntriesOfLiteral p rows columns m held
read-lists p rows columns m held some are size same = subst (AreEntriesOfLiteral p rows columns m) (sym same) (are_entries p columns m some are rows size)
