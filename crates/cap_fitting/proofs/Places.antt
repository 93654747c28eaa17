-- What fits at a place of a list, by what a loop over the list knows: the place, and what stands there.
use Rattle.std.proofs.Common.{◌≡◌, ℕ, zero, suc, ◌+◌, ◌<◌, List, [], ◌∷◌, ◌++◌, length, take, drop, get_or, sym, ap, ◌∙◌, add-one, arith}
use Rattle.cap_names.specs.declared.literals.MorLit.{MorLit}
use Rattle.cap_grammar.specs.declared.tree.SessionPart.{SessionPart}
use Rattle.cap_checked.specs.declared.tree.CheckedObj.{CheckedObj}
use Rattle.cap_checked.specs.declared.tree.Checked.{Checked}
use Rattle.cap_faults.specs.declared.values.Value.{Value}
use Rattle.cap_faults.specs.Scripts.{values_behind}
use Rattle.cap_check.specs.Unbuilt.{CheckedPart}
use Rattle.cap_fitting.specs.Categories.{category_over}
use Rattle.cap_fitting.specs.Commands.{CommandFits}
use Rattle.cap_fitting.specs.Forms.{CheckedCommand, CheckedSession, behind_commands, PartFits, SessionFits, FormFits}
use Rattle.cap_fitting.specs.Literals.{LiteralFits, PartLiteralFits, LiteralsFit}
use Rattle.cap_fitting.proofs.Values.{values_push}

-- a list is what stands before a place, what stands there, and what stands behind
pub split_at : {A : Type 0} (xs : List A) (i : ℕ) (x : A) → i < length xs → x ≡ get_or xs i x → xs ≡ take i xs ++ (x ∷ drop (suc i) xs)
split_at [] i x h e = absurd (omega arith)
split_at (y ∷ ys) zero x h e = ap (λ z. z ∷ ys) (sym e)
split_at (y ∷ ys) (suc i) x h e = ap (λ l. y ∷ l) (split_at ys i x (omega arith) e)

take_more : {A : Type 0} (xs : List A) (i : ℕ) (x : A) → i < length xs → x ≡ get_or xs i x → take (suc i) xs ≡ take i xs ++ x ∷ []
take_more [] i x h e = absurd (omega arith)
take_more (y ∷ ys) zero x h e = ap (λ z. z ∷ []) (sym e)
take_more (y ∷ ys) (suc i) x h e = ap (λ l. y ∷ l) (take_more ys i x (omega arith) e)

-- the front up to the next place, and the values behind it
pub front_more : {A : Type 0} (xs : List A) (i : ℕ) (x : A) → i < length xs → x ≡ get_or xs i x → take (i + 1) xs ≡ take i xs ++ x ∷ []
front_more xs i x h e = ap (λ n. take n xs) (add-one i) ∙ take_more xs i x h e

pub values_more : {A : Type 0} (bound : List Value → A → List Value) (values : List Value) (xs : List A) (i : ℕ) (x : A) → i < length xs → x ≡ get_or xs i x
    → values_behind bound values (take (i + 1) xs) ≡ values_behind bound values (take i xs) ++ bound (values_behind bound values (take i xs)) x
values_more bound values xs i x h e = ap (values_behind bound values) (front_more xs i x h e) ∙ values_push bound values (take i xs) x

-- the part at a place of the prelude
pub part_here : (form : Checked) → FormFits form → (i : ℕ) (p : CheckedPart) → i < length form.prelude → p ≡ get_or form.prelude i p → PartFits (take i form.prelude) p.node
part_here form fits i p h e = fits.parts (take i form.prelude) (drop (suc i) form.prelude) p (split_at form.prelude i p h e)

pub part_literal_here : (form : Checked) → LiteralsFit form → (i : ℕ) (p : CheckedPart) → i < length form.prelude → p ≡ get_or form.prelude i p → PartLiteralFits (category_over (take i form.prelude)) p.node
part_literal_here form fits i p h e = fits.parts (take i form.prelude) (drop (suc i) form.prelude) p (split_at form.prelude i p h e)

-- the session at a place
pub session_here : (form : Checked) → FormFits form → (i : ℕ) (s : CheckedSession) → i < length form.sessions → s ≡ get_or form.sessions i s → SessionFits form.prelude (take i form.sessions) s.node
session_here form fits i s h e = fits.sessions (take i form.sessions) (drop (suc i) form.sessions) s (split_at form.sessions i s h e)

-- the command at a place of a session that fits
pub command_here : (prelude : List CheckedPart) (earlier : List CheckedSession) (s : SessionPart CheckedObj MorLit) → SessionFits prelude earlier s
    → (i : ℕ) (c : CheckedCommand) → i < length s.commands → c ≡ get_or s.commands i c → CommandFits (behind_commands prelude (take i s.commands)) c.node
command_here prelude earlier s fits i c h e = fits.commands (take i s.commands) (drop (suc i) s.commands) c (split_at s.commands i c h e)

pub command_literal_here : (form : Checked) → LiteralsFit form → (i : ℕ) (s : CheckedSession) → i < length form.sessions → s ≡ get_or form.sessions i s
    → (k : ℕ) (c : CheckedCommand) → k < length s.node.commands → c ≡ get_or s.node.commands k c → LiteralFits (category_over form.prelude) c.node
command_literal_here form fits i s h e k c less is =
    fits.sessions (take i form.sessions) (drop (suc i) form.sessions) s (split_at form.sessions i s h e) (take k s.node.commands) (drop (suc k) s.node.commands) c (split_at s.node.commands k c less is)
