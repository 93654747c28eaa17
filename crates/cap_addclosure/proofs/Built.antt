-- Matrices that are built entry after entry.
use Rattle.std.proofs.Common.{◌≡◌, ℕ, zero, suc, ◌+◌, ◌*◌, ◌/◌, ◌%◌, ◌<◌, ◌≤◌, List, [], ◌∷◌, ◌++◌, map, length, get_or, take, append_assoc, replicate, refl, sym, ap, ◌∙◌, subst, arith}
use Rattle.std.specs.List.{range_with_len}
use Rattle.std.proofs.lemmas.List.{take_more}
use Rattle.std.proofs.lemmas.List.{append-nil, ext_get_or, length-replicate, get_or-replicate}
use Rattle.std.proofs.lemmas.List.FromFn.{length-map-range_with_len, get_or-map-range_with_len, map-range_with_len_more}
use Rattle.std.proofs.Math.Nat.{zero-add, add-mul}
use Rattle.std.proofs.lemmas.Nat.{div-mul-add, mod-mul-add}
use Rattle.std.specs.Prelude.{Result, Ok, Err, IfOk, IfErr}
use Rattle.cap_laws.specs.declared.faults.CatFault.{CatFault}
use Rattle.cap_laws.specs.declared.faults.CatFault.TheVariants.{NoMemory}
use Rattle.cap_laws.specs.Answers.{Answers, Copies, Size, Fits}
use Rattle.cap_laws.specs.Linear.{Arrow}
use Rattle.cap_laws.specs.Table.{TableData, Combination, row_below}
use Rattle.cap_add_laws.specs.Closure.{MorphismMatrix, IsMorphismMatrix, morphism_by, closure_data, joined}
use Rattle.cap_add_laws.proofs.Joined.{joined-residues}
use Rattle.cap_add_laws.proofs.Structure.{matrix-rows}
use Rattle.cap_addclosure.specs.Sizes.{closure_size}

pub zeros-row : (n : ℕ) → replicate n 0 ≡ row_below n (λ k. 0)
zeros-row n = ext_get_or 0 (replicate n 0) (row_below n (λ k. 0)) (length-replicate {A = ℕ} n 0 ∙ sym (length-map-range_with_len (λ k. 0) 0 n))
    (λ k lt. get_or-replicate n k 0 0 (omega (arith, lt, length-replicate {A = ℕ} n 0)) ∙ sym (get_or-map-range_with_len (λ k. 0) 0 n k k 0 (omega (arith, lt, length-replicate {A = ℕ} n 0)) (zero-add k)))

-- the first k entries of a matrix by a formula, row by row
abbrev pub first_entries : List ℕ → List ℕ → (ℕ → ℕ → Combination) → ℕ → List (List ℕ)
first_entries a b F k = map (λ q. (F (q / length b) (q % length b)).coefficients) (range_with_len 0 k)

pub entry-next : (a b : List ℕ) (F : ℕ → ℕ → Combination) (k : ℕ) (xs : List (List ℕ)) (x : List ℕ) → xs ≡ first_entries a b F k → x ≡ (F (k / length b) (k % length b)).coefficients → xs ++ x ∷ [] ≡ first_entries a b F (k + 1)
entry-next a b F k xs x e d =
    ap (λ z. z ++ x ∷ []) e ∙ ap (λ z. first_entries a b F k ++ z ∷ []) d ∙ sym (map-range_with_len_more (λ q. (F (q / length b) (q % length b)).coefficients) 0 k k (zero-add k))

-- its coefficients are as many as its size says
pub coefficients-few : {T : TableData} {a b : List ℕ} {f : MorphismMatrix} → Arrow (closure_data T) a b f → Fits (closure_size T a b) → length (joined f.entries) ≤ 1048576
coefficients-few p h = omega (arith, (joined-residues (matrix-rows p)).long, h.cells)

-- what a loop over all entries has built is the matrix
pub all-entries : (a b : List ℕ) (F : ℕ → ℕ → Combination) (k : ℕ) (xs : List (List ℕ)) → xs ≡ first_entries a b F k → k ≡ length a * length b → xs ≡ (morphism_by a b F).entries
all-entries a b F k xs e d = e ∙ ap (λ n. first_entries a b F n) d

pub all-many : (a b : List ℕ) (F : ℕ → ℕ → Combination) (xs : List (List ℕ)) → xs ≡ (morphism_by a b F).entries → length xs ≡ length a * length b
all-many a b F xs e = ap length e ∙ length-map-range_with_len (λ q. (F (q / length b) (q % length b)).coefficients) 0 (length a * length b)

pub all-few : {T : TableData} (a b : List ℕ) (F : ℕ → ℕ → Combination) (xs : List (List ℕ)) → xs ≡ (morphism_by a b F).entries → Arrow (closure_data T) a b (morphism_by a b F) → Fits (closure_size T a b) → length (joined xs) ≤ 1048576
all-few a b F xs e p h = omega (arith, ap (λ (z : List (List ℕ)). length (joined z)) e, coefficients-few p h)

-- what can want memory alone, where the sizes keep the limits
pub answers-built : {A : Type 0} (met : Size → Type 0) (v w : A) (r : Result A CatFault) → ((s : Size) → met s → Fits s) → IfOk r (λ x. x ≡ w) → IfErr r (λ e. e ≡ NoMemory) → w ≡ v → Answers met (λ x. x ≡ v) r
answers-built met v w (Ok x) h e f d = (e ∙ d, h)
answers-built met v w (Err e) h k f d = subst (λ q. Answers met (λ x. x ≡ v) (Err q)) (sym f) tt

-- a matrix that keeps the limits, as a size
pub held-fits : {T : TableData} (f : MorphismMatrix) → IsMorphismMatrix T f → length f.from ≤ 2048 → length f.to ≤ 2048 → length (joined f.entries) ≤ 1048576 → (s : Size) → s ≡ closure_size T f.from f.to → Fits s
held-fits {T} f F rows columns cells s e =
    let p : Arrow (closure_data T) f.from f.to f = record { is = F; from = refl; to = refl } in
    subst (λ (z : Size). Fits z) (sym e) (record { rows = rows; columns = columns; cells = omega (arith, cells, (joined-residues (matrix-rows p)).long) })

-- entries one after another
joined-append : (xs ys : List (List ℕ)) → joined (xs ++ ys) ≡ joined xs ++ joined ys
joined-append [] ys = refl
joined-append (x ∷ xs) ys = ap (λ z. x ++ z) (joined-append xs ys) ∙ sym (append_assoc x (joined xs) (joined ys))

pub joined-next : (xs : List (List ℕ)) (i : ℕ) (d : List ℕ) → i < length xs → joined (take (i + 1) xs) ≡ joined (take i xs) ++ get_or xs i d
joined-next xs i d lt = ap joined (take_more xs i d lt) ∙ joined-append (take i xs) (get_or xs i d ∷ []) ∙ ap (λ z. joined (take i xs) ++ z) (append-nil (get_or xs i d))

-- a matrix of given entries, between copies of two lists, where its size keeps the limits
pub answers-by : (T : TableData) (a b c d : List ℕ) (v : MorphismMatrix) (xs : List (List ℕ)) (r : Result MorphismMatrix CatFault) → Fits (closure_size T a b)
    → IfOk r (λ x. x ≡ record { from = c; to = d; entries = xs }) → IfErr r (λ e. e ≡ NoMemory) → c ≡ a → d ≡ b → record { from = a; to = b; entries = xs } ≡ v
    → Answers (λ s. s ≡ closure_size T a b) (λ x. x ≡ v) r
answers-by T a b c d v xs r fits value fault ea eb e =
    let make = λ (x y : List ℕ). let m : MorphismMatrix = record { from = x; to = y; entries = xs } in m in
    answers-built (λ s. s ≡ closure_size T a b) v (make c d) r (λ s h. subst (λ (z : Size). Fits z) (sym h) fits) value fault (ap (λ z. make z d) ea ∙ ap (λ z. make a z) eb ∙ e)

-- a fact of the right answers
pub ok-map : {A E : Type 0} (P Q : A → Type 0) (r : Result A E) → ((x : A) → P x → Q x) → IfOk r P → IfOk r Q
ok-map P Q (Ok x) h p = h x p
ok-map P Q (Err e) h p = tt

-- a matrix of equal lists and entries, or want of memory
pub copies-built : (f : MorphismMatrix) (a b : List ℕ) (xs : List (List ℕ)) (r : Result MorphismMatrix CatFault) → IfOk r (λ x. x ≡ record { from = a; to = b; entries = xs }) → IfErr r (λ e. e ≡ NoMemory)
    → a ≡ f.from → b ≡ f.to → xs ≡ f.entries → Copies f r
copies-built f a b xs (Ok x) h e ea eb ex =
    let make = λ (x y : List ℕ) (z : List (List ℕ)). let m : MorphismMatrix = record { from = x; to = y; entries = z } in m in
    h ∙ ap (λ z. make z b xs) ea ∙ ap (λ z. make f.from z xs) eb ∙ ap (λ z. make f.from f.to z) ex
copies-built f a b xs (Err v) h e ea eb ex = e

pub joined-one : (xs : List (List ℕ)) (x : List ℕ) → joined (xs ++ x ∷ []) ≡ joined xs ++ x
joined-one xs x = joined-append xs (x ∷ []) ∙ ap (λ z. joined xs ++ z) (append-nil x)

pub joined-more : (f : ℕ → List ℕ) (k : ℕ) → joined (map f (range_with_len 0 (k + 1))) ≡ joined (map f (range_with_len 0 k)) ++ f k
joined-more f k = ap joined (map-range_with_len_more f 0 k k (zero-add k)) ∙ joined-append (map f (range_with_len 0 k)) (f k ∷ []) ∙ ap (λ z. joined (map f (range_with_len 0 k)) ++ z) (append-nil (f k))

-- the entries of one row more
row-more : (a b : List ℕ) (F : ℕ → ℕ → Combination) (u v : ℕ) → v ≤ length b → first_entries a b F (u * length b + v) ≡ first_entries a b F (u * length b) ++ map (λ q. (F u q).coefficients) (range_with_len 0 v)
row-more a b F u zero le = ap (first_entries a b F) (let e : u * length b + 0 ≡ u * length b = omega arith in e) ∙ sym (append-nil (first_entries a b F (u * length b)))
row-more a b F u (suc v) le =
    let n = length b in
    let G = λ (q : ℕ). (F (q / n) (q % n)).coefficients in
    let H = λ (q : ℕ). (F u q).coefficients in
    let lt : v < n = omega (arith, le) in
    ap (first_entries a b F) (let e : u * n + suc v ≡ u * n + v + 1 = omega arith in e)
    ∙ map-range_with_len_more G 0 (u * n + v) (u * n + v) (zero-add (u * n + v))
    ∙ ap (λ z. z ++ G (u * n + v) ∷ []) (row-more a b F u v (omega (arith, le)))
    ∙ ap (λ q. (first_entries a b F (u * n) ++ map H (range_with_len 0 v)) ++ (F q ((u * n + v) % n)).coefficients ∷ []) (div-mul-add u n v lt)
    ∙ ap (λ r. (first_entries a b F (u * n) ++ map H (range_with_len 0 v)) ++ (F u r).coefficients ∷ []) (mod-mul-add u n v lt)
    ∙ append_assoc (first_entries a b F (u * n)) (map H (range_with_len 0 v)) (H v ∷ [])
    ∙ ap (λ z. first_entries a b F (u * n) ++ z) (sym (map-range_with_len_more H 0 v v (zero-add v)) ∙ ap (λ k. map H (range_with_len 0 k)) (let e : v + 1 ≡ suc v = omega arith in e))

pub rows-next : (a b : List ℕ) (F : ℕ → ℕ → Combination) (u : ℕ) → joined (first_entries a b F ((u + 1) * length b)) ≡ joined (first_entries a b F (u * length b)) ++ joined (map (λ q. (F u q).coefficients) (range_with_len 0 (length b)))
rows-next a b F u =
    ap (λ k. joined (first_entries a b F k)) (add-mul u 1 (length b) ∙ (let e : u * length b + 1 * length b ≡ u * length b + length b = omega arith in e))
    ∙ ap joined (row-more a b F u (length b) (omega arith))
    ∙ joined-append (first_entries a b F (u * length b)) (map (λ q. (F u q).coefficients) (range_with_len 0 (length b)))
