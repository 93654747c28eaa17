-- How a line of the table of rules is read: a body written as terms with bound names becomes a list of steps. Nested calls are steps of their own, the arguments before the call and from left to right; each call, end or part that is written is one step.
use Rattle.std.specs.Prelude.{ℕ, ◌+◌, Bool, true, false, List, [], ◌∷◌, ◌++◌, length}
use Rattle.cap_names.specs.declared.identifiers.OpId.{OpId}
use Rattle.cap_terms.specs.declared.body.Var.{Var}
use Rattle.cap_terms.specs.declared.body.Step.{Step}
use Rattle.cap_terms.specs.declared.body.Step.TheVariants.{Call, Src, Tgt, Part, MinusOne, Exists, Both, When, Tuple}
use Rattle.cap_terms.specs.declared.body.Rule.{Rule}
use Rattle.cap_terms.specs.Rules.{all_occurrences}

-- steps, and the variable that has the value
pub record Written : Type 0 where
  pub steps : List Step
  pub value : ℕ

-- what is written becomes steps once the number of the next variable is known
abbrev pub Term : Type 0
Term = ℕ → Written

abbrev pub variable : ℕ → Var
variable x = record { 0 = x }

-- a name that stands for a variable
abbrev pub named : ℕ → Term
named x next = record { steps = []; value = x }

-- a step behind those of its arguments
abbrev pub then_step : ℕ → List Step → Step → Written
then_step next steps s = record { steps = steps ++ s ∷ []; value = next + length steps }

-- a step of one argument, and one of two
abbrev pub of_one : (Var → Step) → Term → Term
of_one step t next = let c = t next in then_step next c.steps (step (variable c.value))

abbrev pub of_two : (Var → Var → Step) → Term → Term → Term
of_two step s t next =
    let c = s next in
    let d = t (next + length c.steps) in
    then_step next (c.steps ++ d.steps) (step (variable c.value) (variable d.value))

-- the arguments of a call or a tuple
pub record WrittenAll : Type 0 where
  pub steps : List Step
  pub values : List Var

abbrev pub written_all : List Term → ℕ → WrittenAll
written_all [] next = record { steps = []; values = [] }
written_all (t ∷ ts) next =
    let c = t next in
    let d = written_all ts (next + length c.steps) in
    record { steps = c.steps ++ d.steps; values = variable c.value ∷ d.values }

abbrev pub of_all : (List Var → Step) → List Term → Term
of_all step ts next = let c = written_all ts next in then_step next c.steps (step c.values)

abbrev pub src : Term → Term
src t = of_one Src t

abbrev pub tgt : Term → Term
tgt t = of_one Tgt t

-- a part of a tuple, the first being number 1
infixl 70 ◌·◌
abbrev pub ◌·◌ : Term → ℕ → Term
t · n = of_one (λ x. Part x n) t

abbrev pub minus_one : Term
minus_one next = then_step next [] MinusOne

abbrev pub exists : Term → Term
exists t = of_one Exists t

abbrev pub both : Term → Term → Term
both s t = of_two Both s t

abbrev pub when : Term → Term → Term
when s t = of_two When s t

abbrev pub tuple : List Term → Term
tuple ts = of_all Tuple ts

-- calls with no, one, two, three and four arguments
abbrev pub call : OpId → List Term → Term
call op ts = of_all (λ xs. Call op xs) ts

abbrev pub call0 : OpId → Term
call0 op = call op []

abbrev pub call1 : OpId → Term → Term
call1 op t = call op (t ∷ [])

abbrev pub call2 : OpId → Term → Term → Term
call2 op t u = call op (t ∷ u ∷ [])

abbrev pub call4 : OpId → Term → Term → Term → Term → Term
call4 op t u v w = call op (t ∷ u ∷ v ∷ w ∷ [])

-- what comes after gives the value a name
infixl 10 ◌>>=◌
abbrev pub ◌>>=◌ : Term → (Term → Term) → Term
◌>>=◌ t rest next =
    let c = t next in
    let d = rest (named c.value) (next + length c.steps) in
    record { steps = c.steps ++ d.steps; value = d.value }

-- a line of the table: the head with its parameters, and the body; a marked one is allowed for abelian categories alone
pub record Line : Type 0 where
  pub head : OpId
  pub marked : Bool
  pub params : ℕ
  pub body : Term

-- heads of one to four parameters, which the body names
abbrev pub head1 : OpId → (Term → Term) → Line
head1 op body = record { head = op; marked = false; params = 1; body = body (named 0) }

abbrev pub head2 : OpId → (Term → Term → Term) → Line
head2 op body = record { head = op; marked = false; params = 2; body = body (named 0) (named 1) }

abbrev pub head3 : OpId → (Term → Term → Term → Term) → Line
head3 op body = record { head = op; marked = false; params = 3; body = body (named 0) (named 1) (named 2) }

abbrev pub head4 : OpId → (Term → Term → Term → Term → Term) → Line
head4 op body = record { head = op; marked = false; params = 4; body = body (named 0) (named 1) (named 2) (named 3) }

abbrev pub abelian : Line → Line
abelian l = record l { marked = true }

-- the rule of a line: its own weight is 1, and it costs each operation as often as its body calls it
abbrev pub rule_of : ℕ → Line → Rule
rule_of number l =
    let written = l.body l.params in
    record {
      cost = record { no = record { 0 = number }; head = l.head; own = 1; abelian = l.marked; calls = all_occurrences written.steps };
      body = record { params = l.params; steps = written.steps; answer = variable written.value };
    }

abbrev pub rules_from : ℕ → List Line → List Rule
rules_from number [] = []
rules_from number (l ∷ ls) = rule_of number l ∷ rules_from (number + 1) ls
