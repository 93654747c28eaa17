-- Shares are given to sessions, one session after another, and come back.
use Rattle.std.proofs.Common.{◌≡◌, ℕ, zero, suc, ◌+◌, ◌-◌, ◌<◌, ◌≤◌, List, [], ◌∷◌, ◌++◌, length, map, take, get_or, Some, refl, sym, ap, ◌∙◌, subst, arith, append_assoc}
use Rattle.std.specs.Prelude.{slice_get}
use Rattle.std.specs.List.{All, AllZip}
use Rattle.std.proofs.lemmas.List.{append-nil, take_all, length-append, length-take}
use Rattle.std.proofs.lemmas.List.Elements.{All-nil, All-push, All-weaker, All-map}
use Rattle.cap_fitting.specs.Forms.{CheckedSession}
use Rattle.cap_fitting.proofs.Places.{front_more}
use Rattle.cap_shares.specs.Shares.{Entries, BeginsWith, Shared, AtTurn, fewer, given, Joins}
use Rattle.cap_shares.specs.Rows.{Belongs, RowJoins}
use Rattle.cap_session.specs.declared.jobs.Job.{Job}
use Rattle.cap_session.specs.Shares.{fewer_by, IsJob, JobsFrom, seen_there, added_there, added_in, JoinsAt, JoinAll}
use Rattle.cap_session.proofs.Ends.{zip-get}

map-twice : {A B C : Type 0} (f : B → C) (g : A → B) (xs : List A) → map f (map g xs) ≡ map (λ x. f (g x)) xs
map-twice f g [] = refl
map-twice f g (x ∷ xs) = ap (λ l. f (g x) ∷ l) (map-twice f g xs)

map-like : {A B : Type 0} (f g : A → B) (xs : List A) → ((x : A) → f x ≡ g x) → map f xs ≡ map g xs
map-like f g [] same = refl
map-like f g (x ∷ xs) same = ap (λ y. y ∷ map f xs) (same x) ∙ ap (λ l. g x ∷ l) (map-like f g xs same)

map-none : {A : Type 0} (f : A → A) (xs : List A) → ((x : A) → f x ≡ x) → map f xs ≡ xs
map-none f [] same = refl
map-none f (x ∷ xs) same = ap (λ y. y ∷ map f xs) (same x) ∙ ap (λ l. x ∷ l) (map-none f xs same)

-- no share is given at first
pub none-given : (ks : List Shared) → ks ≡ map (fewer_by 0) ks
none-given ks = sym (map-none (fewer_by 0) ks (λ k. let same : k.shares - 0 ≡ k.shares = omega arith in ap (λ (m : ℕ). record k { shares = m }) same))

one-more : (n : ℕ) (k : Shared) → fewer (fewer_by n k) ≡ fewer_by (n + 1) k
one-more n k = let less : k.shares - n - 1 ≡ k.shares - (n + 1) = omega arith in ap (λ (m : ℕ). record k { shares = m }) less

pub more-given : (n : ℕ) (ks : List Shared) → map fewer (map (fewer_by n) ks) ≡ map (fewer_by (n + 1)) ks
more-given n ks = map-twice fewer (fewer_by n) ks ∙ map-like (λ k. fewer (fewer_by n k)) (fewer_by (n + 1)) ks (one-more n)

-- the seats that are given are the same, however many shares are left
pub same-given : (n : ℕ) (ks : List Shared) → map given (map (fewer_by n) ks) ≡ map given ks
same-given n ks = map-twice given (fewer_by n) ks

two-left : (n i m : ℕ) → i < n → n < m → 2 ≤ m - i
two-left n i m a b = omega (arith, a, b)

pub enough : (n i : ℕ) (ks : List Shared) → i < n → All (λ (k : Shared). n < k.shares) ks → All (λ (k : Shared). 2 ≤ k.shares) (map (fewer_by i) ks)
enough n i ks less all = All-map (λ (k : Shared). 2 ≤ k.shares) (fewer_by i) ks (All-weaker (λ (k : Shared). n < k.shares) (λ (k : Shared). 2 ≤ k.shares - i) (λ k h. two-left n i k.shares less h) ks all)

-- one job more
pub jobs-more : (n : ℕ) (ks : List Shared) (ps : List CheckedSession) (jobs : List Job) (p : CheckedSession) (job : Job) → JobsFrom n ks ps jobs → IsJob (n + length ps) ks p job → JobsFrom n ks (ps ++ p ∷ []) (jobs ++ job ∷ [])
jobs-more n ks [] [] p job all is = let same : n + 0 ≡ n = omega arith in (subst (λ m. IsJob m ks p job) same is, tt)
jobs-more n ks [] (j ∷ jobs) p job all is = absurd all
jobs-more n ks (q ∷ ps) [] p job all is = absurd all
jobs-more n ks (q ∷ ps) (j ∷ jobs) p job all is =
    let number : n + suc (length ps) ≡ suc n + length ps = omega arith in
    (all.0, jobs-more (suc n) ks ps jobs p job all.1 (subst (λ m. IsJob m ks p job) number is))

-- so many jobs are made
pub record Made (ks : List Shared) (sessions : List CheckedSession) (i : ℕ) (left : List Shared) (jobs : List Job) : Type 0 where
  pub rest : left ≡ map (fewer_by i) ks
  pub are : JobsFrom 1 ks (take i sessions) jobs
  pub long : length jobs ≡ i

pub made-first : (ks : List Shared) (sessions : List CheckedSession) → Made ks sessions 0 ks []
made-first ks sessions = record { rest = none-given ks; are = tt; long = refl }

module _ (ks : List Shared) (sessions : List CheckedSession) (i : ℕ) (left : List Shared) (jobs : List Job) (p : CheckedSession) (h : i < length sessions) (at : p ≡ get_or sessions i p) (m : Made ks sessions i left jobs) where
  pub made-more : (left' : List Shared) (job : Job) → left' ≡ map fewer left → job.row.items ≡ map given left → job.commands.now ≡ p.node.commands → job.session.0 ≡ length jobs + 1 → Made ks sessions (i + 1) left' (jobs ++ job ∷ [])
  made-more left' job rest row commands number =
      let front : take (i + 1) sessions ≡ take i sessions ++ p ∷ [] = front_more sessions i p h at in
      let long : length (take i sessions) ≡ i = length-take i sessions ∙ omega (arith, h) in
      record {
        rest = rest ∙ ap (map fewer) m.rest ∙ more-given i ks;
        are = subst (λ ps. JobsFrom 1 ks ps (jobs ++ job ∷ [])) (sym front) (jobs-more 1 ks (take i sessions) jobs p job m.are (record {
          number = number ∙ omega (arith, m.long, long);
          commands = commands;
          row = row ∙ ap (map given) m.rest ∙ same-given i ks;
        }));
        long = length-append jobs (job ∷ []) ∙ ap (λ n. n + 1) m.long;
      }

-- what one list begins with begins with what that begins with
pub begins-on : (a b c : Entries) → BeginsWith b a → BeginsWith c b → BeginsWith c a
begins-on a b c (more, e) (rest, f) = (more ++ rest, f ∙ ap (λ l. l ++ rest) e ∙ append_assoc a more rest)

pub begins-self : (a : Entries) → BeginsWith a a
begins-self a = ([], sym (append-nil a))

added-more : (c : ℕ) (rows : List (List AtTurn)) (row : List AtTurn) → added_in c (rows ++ row ∷ []) ≡ added_in c rows + added_there (slice_get row c)
added-more c [] row = omega arith
added-more c (r ∷ rows) row = ap (λ n. added_there (slice_get r c) + n) (added-more c rows row) ∙ omega arith

module _ (c : ℕ) (rows : List (List AtTurn)) (row : List AtTurn) (k k1 k2 : Shared) (s : AtTurn) (here : slice_get row c ≡ Some s) (first : JoinsAt c rows k k1) (next : Joins k1 s k2) where
  abbrev Begins : List AtTurn → Type 0
  Begins r = BeginsWith k2.seen (seen_there (slice_get r c))

  pub joins-more : JoinsAt c (rows ++ row ∷ []) k k2
  joins-more =
      let there : added_there (slice_get row c) ≡ s.added = ap added_there here in
      let all : k1.added ≡ k.added + added_in c rows = ap (λ (x : Shared). x.added) first.is in
      let had : k1.shares ≡ k.shares + length rows = ap (λ (x : Shared). x.shares) first.is in
      let shares : k1.shares + 1 ≡ k.shares + length (rows ++ row ∷ []) = omega (arith, had, length-append rows (row ∷ [])) in
      let added : k1.added + s.added ≡ k.added + added_in c (rows ++ row ∷ []) = omega (arith, all, there, added-more c rows row) in
      record {
        is = next.is ∙ ap (λ (x : Shared). record x { shares = k1.shares + 1; seen = k2.seen; added = k1.added + s.added }) first.is
            ∙ (λ i. record k { shares = shares i; seen = k2.seen; added = added i });
        own = begins-on k.seen k1.seen k2.seen first.own next.own;
        others = All-push Begins rows row
            (All-weaker (λ (r : List AtTurn). BeginsWith k1.seen (seen_there (slice_get r c))) Begins (λ r b. begins-on (seen_there (slice_get r c)) k1.seen k2.seen b next.own) rows first.others)
            (subst (λ o. BeginsWith k2.seen (seen_there o)) (sym here) next.other);
      }

nothing-joined : (k : Shared) → k ≡ record k { shares = k.shares + 0; added = k.added + 0 }
nothing-joined k = λ i. record k { shares = shares i; added = added i } where
  shares : k.shares ≡ k.shares + 0
  shares = omega arith

  added : k.added ≡ k.added + 0
  added = omega arith

-- before any row comes back
pub joins-none : (ks : List Shared) → JoinAll ks [] ks
joins-none ks = (refl, λ c k at. (k, at, record { is = nothing-joined k; own = begins-self k.seen; others = All-nil (λ (row : List AtTurn). BeginsWith k.seen (seen_there (slice_get row c))) }))

-- the categories stay in their places
same-places : (before after : List Shared) (rows : List (List AtTurn)) → JoinAll before rows after → (row : List AtTurn) → AllZip Belongs before row → AllZip Belongs after row
same-places before after rows joins row zip = go before after joins.0 (λ c k at. let r = joins.1 c k at in (r.0, r.1, ap (λ (x : Shared). x.place) r.2.is)) row zip where
  go : (ks ls : List Shared) → length ls ≡ length ks → ((c : ℕ) (k : Shared) → slice_get ks c ≡ Some k → (l : Shared) × (slice_get ls c ≡ Some l) × (l.place ≡ k.place)) → (row : List AtTurn) → AllZip Belongs ks row → AllZip Belongs ls row
  go [] [] long at row z = z
  go [] (l ∷ ls) long at row z = absurd (omega (arith, long))
  go (k ∷ ks) [] long at row z = absurd (omega (arith, long))
  go (k ∷ ks) (l ∷ ls) long at [] z = absurd z
  go (k ∷ ks) (l ∷ ls) long at (s ∷ row) z =
      let r = at zero k refl in
      let same : l ≡ r.0 = cc in
      (z.0 ∙ sym r.2 ∙ ap (λ (x : Shared). x.place) (sym same), go ks ls (omega (arith, long)) (λ c. at (suc c)) row z.1)

module _ (before mid after : List Shared) (rows : List (List AtTurn)) (row : List AtTurn) (joins : JoinAll before rows mid) (zip : AllZip Belongs before row) where
  pub row-belongs : AllZip Belongs mid row
  row-belongs = same-places before mid rows joins row zip

  pub all-more : RowJoins mid row after → JoinAll before (rows ++ row ∷ []) after
  all-more next = (
    next.0 ∙ joins.0,
    λ c k at.
        let first = joins.1 c k at in
        let here = zip-get Belongs before row c k zip at in
        let then = next.1 c first.0 here.0 first.1 here.1 in
        (then.0, then.1, joins-more c rows row k first.0 then.0 here.0 here.1 first.2 then.2),
  )

-- all jobs are made
jobs-long : (n : ℕ) (ks : List Shared) (ps : List CheckedSession) (jobs : List Job) → JobsFrom n ks ps jobs → length jobs ≡ length ps
jobs-long n ks [] [] made = refl
jobs-long n ks [] (job ∷ jobs) made = absurd made
jobs-long n ks (p ∷ ps) [] made = absurd made
jobs-long n ks (p ∷ ps) (job ∷ jobs) made = ap suc (jobs-long (suc n) ks ps jobs made.1)

module _ (ks : List Shared) (sessions : List CheckedSession) (i : ℕ) (left : List Shared) (jobs : List Job) (h : length sessions ≤ i) (m : Made ks sessions i left jobs) where
  pub made-jobs : JobsFrom 1 ks sessions jobs
  made-jobs = subst (λ ps. JobsFrom 1 ks ps jobs) (take_all i sessions h) m.are

  pub made-rest : left ≡ map (fewer_by (length sessions)) ks
  made-rest = let all : i ≡ length sessions = sym m.long ∙ jobs-long 1 ks sessions jobs made-jobs in m.rest ∙ ap (λ n. map (fewer_by n) ks) all
