-- Loops that add to cells of a flat buffer.
use Rattle.std.proofs.Common.{◌≡◌, ℕ, ◌+◌, ◌-◌, ◌*◌, ◌%◌, ◌<◌, ◌≤◌, List, length, take, drop, get_or, set, refl, sym, ap, ◌∙◌, subst, arith, ⊎_elim, length-take, length-drop}
use Rattle.std.proofs.lemmas.List.{get_or-set_same, get_or-set_other, get_or_past}
use Rattle.std.proofs.lemmas.Nat.{same_from_place, mul-le}
use Rattle.std.proofs.lemmas.Bool.{cases_eq, cases_lt}
use Rattle.std.proofs.Math.Nat.{mod-lt, mod-eq_of_lt, mod-add-mod, add-mod-mod, add-zero, add_assoc}
use Rattle.cap_matrix.specs.Grid.{Grid, entry}
use Rattle.cap_matrix.specs.Buffer.{IsBufferOf}
use Rattle.cap_matrix.proofs.Buffers.{buffer_matrix, buffer-at}
use Rattle.cap_matrix.proofs.Entries.{small-at}
use Rattle.cap_matrix.proofs.Writes.{part-at}
use Rattle.cap_reduce.specs.Flat.{cell}
use Rattle.cap_solve.specs.Blocks.{IsAdded, IsBlockAdded}

-- to no cells, and to one more
pub added_start : (p : ℕ) (first : List ℕ) (at : ℕ) (f : ℕ → ℕ) → ((k : ℕ) → get_or first k 0 < p) → IsAdded p first first at 0 f
added_start p first at f small = record { inside = λ k lt. absurd (omega arith); outside = λ i out. refl; small = small }

pub added_more : (p : ℕ) (first now : List ℕ) (at k v : ℕ) (f : ℕ → ℕ) → 1 ≤ p → at + k < length now → v ≡ (get_or now (at + k) 0 + f k) % p
    → IsAdded p first now at k f → IsAdded p first (set now (at + k) v) at (k + 1) f
added_more p first now at k v f pos place e h = record {
  inside = λ i lt. ⊎_elim
      (λ same. ap (λ y. get_or (set now (at + k) v) (at + y) 0) same ∙ get_or-set_same now (at + k) v 0 place ∙ e
      ∙ ap (λ y. (y + f k) % p) (h.outside (at + k) (λ ge less. absurd (omega arith))) ∙ sym (ap (λ y. (get_or first (at + y) 0 + f y) % p) same))
      (λ ne. get_or-set_other now (at + k) (at + i) v 0 (λ x. ne (omega arith)) ∙ h.inside i (omega arith))
      (cases_eq i k);
  outside = λ i out. get_or-set_other now (at + k) i v 0 (λ x. out (omega arith) (omega arith)) ∙ h.outside i (λ ge lt. out ge (omega arith));
  small = λ i. ⊎_elim
      (λ same. subst (λ y. get_or (set now (at + k) v) y 0 < p) (sym same)
      (subst (λ y. y < p) (sym (get_or-set_same now (at + k) v 0 place ∙ e)) (mod-lt (get_or now (at + k) 0 + f k) pos)))
      (λ ne. subst (λ y. y < p) (sym (get_or-set_other now (at + k) i v 0 ne)) (h.small i))
      (cases_eq i (at + k));
}

-- to no rows of a block, and to one more
pub block_start : (p w : ℕ) (first : List ℕ) (row col m : ℕ) (f : ℕ → ℕ → ℕ) → ((k : ℕ) → get_or first k 0 < p) → IsBlockAdded p w first first row col 0 m f
block_start p w first row col m f small = record { inside = λ i j lt below. absurd (omega arith); outside = λ i j lt out. refl; small = small }

pub block_row : (p w : ℕ) (first mid now : List ℕ) (row col n m : ℕ) (f : ℕ → ℕ → ℕ) (g : ℕ → ℕ) → col + m ≤ w → IsBlockAdded p w first mid row col n m f
    → IsAdded p mid now ((row + n) * w + col) m g → ((j : ℕ) → j < m → g j % p ≡ f n j % p) → IsBlockAdded p w first now row col (n + 1) m f
block_row p w first mid now row col n m f g room h l same =
    let line = row + n in
    -- a cell of the row that is written
    let own : (i j : ℕ) → j < w → line * w + col ≤ i * w + j → i * w + j < line * w + col + m → (i ≡ line) × ((col ≤ j) × (j < col + m)) =
    λ i j lt ge less.
    let c = i * w + j - (line * w + col) in
    let e : i * w + j ≡ line * w + (col + c) = omega arith in
    let q = same_from_place i j line (col + c) w lt (omega arith) e in
    (q.0, (omega (arith, q.1), omega (arith, q.1))) in
    record {
      inside = λ i j lt below. ⊎_elim
          (λ here.
          let e = ap (λ y. row + y) here in
          ap (λ y. cell now w y (col + j)) e
          ∙ ap (λ y. get_or now y 0) (let s : line * w + (col + j) ≡ line * w + col + j = omega arith in s)
          ∙ l.inside j below
          ∙ ap (λ y. (get_or mid y 0 + g j) % p) (let s : line * w + col + j ≡ line * w + (col + j) = omega arith in s)
          ∙ ap (λ y. (y + g j) % p) (h.outside line (col + j) (omega arith) (λ a b c d. absurd (omega arith)))
          ∙ sym (add-mod-mod (cell first w line (col + j)) (g j) p) ∙ ap (λ y. (cell first w line (col + j) + y) % p) (same j below)
          ∙ add-mod-mod (cell first w line (col + j)) (f n j) p
          ∙ ap (λ y. (cell first w y (col + j) + f n j) % p) (sym e) ∙ ap (λ y. (cell first w (row + i) (col + j) + f y j) % p) (sym here))
          (λ other. l.outside ((row + i) * w + (col + j)) (λ ge less. let q = own (row + i) (col + j) (omega arith) ge less in other (omega (arith, q.0)))
          ∙ h.inside i j (omega arith) below)
          (cases_eq i n);
      outside = λ i j lt out.
          l.outside (i * w + j) (λ ge less. let q = own i j lt ge less in out (omega (arith, q.0)) (omega (arith, q.0)) q.1.0 q.1.1)
          ∙ h.outside i j lt (λ a b c d. out a (omega arith) c d);
      small = l.small;
    }

-- nothing is added to a block, and two blocks are added to one place
pub block_none : (p w : ℕ) (now : List ℕ) (row col n m : ℕ) (f : ℕ → ℕ → ℕ) → ((i j : ℕ) → i < n → j < m → f i j ≡ 0) → ((k : ℕ) → get_or now k 0 < p) → IsBlockAdded p w now now row col n m f
block_none p w now row col n m f none small = record {
  inside = λ i j lt below.
      let x = cell now w (row + i) (col + j) in
      sym (ap (λ y. (x + y) % p) (none i j lt below) ∙ ap (λ y. y % p) (add-zero x) ∙ mod-eq_of_lt (small ((row + i) * w + (col + j))));
  outside = λ i j lt out. refl;
  small = small;
}

pub block_more : (p w : ℕ) (first mid now : List ℕ) (row col n m : ℕ) (f g h : ℕ → ℕ → ℕ) → IsBlockAdded p w first mid row col n m f → IsBlockAdded p w mid now row col n m g
    → ((i j : ℕ) → i < n → j < m → h i j ≡ f i j + g i j) → IsBlockAdded p w first now row col n m h
block_more p w first mid now row col n m f g h a b same = record {
  inside = λ i j lt below.
      let x = cell first w (row + i) (col + j) in
      b.inside i j lt below ∙ ap (λ y. (y + g i j) % p) (a.inside i j lt below) ∙ mod-add-mod (x + f i j) p (g i j)
      ∙ ap (λ y. y % p) (add_assoc x (f i j) (g i j) ∙ ap (λ y. x + y) (sym (same i j lt below)));
  outside = λ i j lt out. b.outside i j lt out ∙ a.outside i j lt out;
  small = b.small;
}

-- with what is added known modulo p
pub block_same : (p w : ℕ) (first now : List ℕ) (row col n m : ℕ) (f g : ℕ → ℕ → ℕ) → ((i j : ℕ) → i < n → j < m → f i j % p ≡ g i j % p)
    → IsBlockAdded p w first now row col n m f → IsBlockAdded p w first now row col n m g
block_same p w first now row col n m f g same h = record {
  inside = λ i j lt below.
      let x = cell first w (row + i) (col + j) in
      h.inside i j lt below ∙ sym (add-mod-mod x (f i j) p) ∙ ap (λ y. (x + y) % p) (same i j lt below) ∙ add-mod-mod x (g i j) p;
  outside = h.outside;
  small = h.small;
}

-- a line of a matrix in its buffer
pub line_part : (g : Grid) (cells : List ℕ) (s e : ℕ) (k : ℕ) → IsBufferOf g cells → k < g.row_count → s ≡ k * g.column_count → e ≡ s + g.column_count
    → (t : ℕ) → t < g.column_count → get_or (take (e - s) (drop s cells)) t 0 ≡ entry g.entries k t
line_part g cells s e k held lt start end t below =
    part-at cells s e t (omega arith) ∙ ap (λ z. get_or cells z 0) (let q : s + t ≡ k * g.column_count + t = omega arith in q)
    ∙ sym (buffer-at g cells held k t lt below)

pub line_length : (g : Grid) (cells : List ℕ) (s e : ℕ) (k : ℕ) → IsBufferOf g cells → k < g.row_count → s ≡ k * g.column_count → e ≡ s + g.column_count
    → length (take (e - s) (drop s cells)) ≡ g.column_count
line_length g cells s e k held lt start end =
    omega (arith, length-take (e - s) (drop s cells), length-drop s cells, held.flat.cells_length, mul-le (k + 1) g.column_count g.row_count g.column_count (omega arith) (omega arith))

pub line_small : (g : Grid) (cells : List ℕ) (s e : ℕ) (k : ℕ) → 1 ≤ g.prime → IsBufferOf g cells → k < g.row_count → s ≡ k * g.column_count → e ≡ s + g.column_count
    → (t : ℕ) → get_or (take (e - s) (drop s cells)) t 0 < g.prime
line_small g cells s e k pos held lt start end t = ⊎_elim
    (λ below. subst (λ y. y < g.prime) (sym (line_part g cells s e k held lt start end t below)) (small-at (buffer_matrix g cells held) k t lt below))
    (λ ge. subst (λ y. y < g.prime) (sym (get_or_past (take (e - s) (drop s cells)) t 0 (omega (arith, line_length g cells s e k held lt start end)))) pos)
    (cases_lt t g.column_count)
