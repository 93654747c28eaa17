-- Languages, generic in the item: a language is a set of lists of items, and a grammar gives each value the language of the lists that spell it (textbook notions of formal languages: concatenation, union, repetition).
use Rattle.std.specs.Prelude.{◌≡◌, List, [], ◌∷◌, ◌++◌, ◌⊎◌, Bool, true, Option, Some, None}

abbrev pub Language : Type 0 → Type 1
Language S = List S → Type 0

-- this item alone
abbrev pub item : {S : Type 0} → S → Language S
item s l = l ≡ s ∷ []

-- one item that passes the test
abbrev pub one : {S : Type 0} → (S → Bool) → Language S
one {S} is l = (s : S) × (l ≡ s ∷ []) × (is s ≡ true)

-- one item that stands for the value
abbrev pub valued : {S A : Type 0} → (S → Option A) → A → Language S
valued {S} f a l = (s : S) × (l ≡ s ∷ []) × (f s ≡ Some a)

-- the empty list alone
abbrev pub nothing : {S : Type 0} → Language S
nothing l = l ≡ []

-- no list
abbrev pub no_list : {S : Type 0} → Language S
no_list l = ⊥

-- a list of p, and then a list of q
pub record Joined {S : Type 0} (p q : List S → Type 0) (l : List S) : Type 0 where
  pub front : List S
  pub rest : List S
  pub split : l ≡ front ++ rest
  pub first : p front
  pub second : q rest

infixr 40 ◌·◌
abbrev pub ◌·◌ : {S : Type 0} → Language S → Language S → Language S
p · q = Joined p q

-- a list of p or of q
infixr 30 ◌or◌
abbrev pub ◌or◌ : {S : Type 0} → Language S → Language S → Language S
(p or q) l = p l ⊎ q l

-- the lists of each value of which f makes this one
abbrev pub made : {S A B : Type 0} → (A → B) → (A → Language S) → B → Language S
made {A = A} f p b l = (a : A) × (f a ≡ b) × p a l

-- the lists of p for the value a, and none for another
abbrev pub just : {S A : Type 0} → A → Language S → A → Language S
just a p b l = (b ≡ a) × p l

-- a list of the value, where there is one, and else the empty list
abbrev pub maybe : {S A : Type 0} → (A → Language S) → Option A → Language S
maybe p None = nothing
maybe p (Some a) = p a

-- a list of each value, in order
abbrev pub each : {S A : Type 0} → (A → Language S) → List A → Language S
each p [] = nothing
each p (a ∷ rest) = p a · each p rest

-- one value at least: the first as p says, and the others as q says
abbrev pub some_of : {S A : Type 0} → (A → Language S) → (A → Language S) → List A → Language S
some_of p q [] = no_list
some_of p q (a ∷ rest) = p a · each q rest

-- any number of values: the first as p says, and the others as q says
abbrev pub any_of : {S A : Type 0} → (A → Language S) → (A → Language S) → List A → Language S
any_of p q [] = nothing
any_of p q (a ∷ rest) = p a · each q rest

-- one value at least, with a separator between each two
abbrev pub separated : {S A : Type 0} → (A → Language S) → Language S → List A → Language S
separated p sep = some_of p (λ a. sep · p a)

-- any number of values, with a separator between each two
abbrev pub separated_any : {S A : Type 0} → (A → Language S) → Language S → List A → Language S
separated_any p sep = any_of p (λ a. sep · p a)
