-- The checked form of a script has the script's categories, blocks and values, and fits where the script's commands do.
use Rattle.std.proofs.Common.{◌≡◌, ℕ, ◌+◌, List, [], ◌∷◌, ◌++◌, length, Bool, true, false, ◌||◌, cond, None, Some, find, refl, ap, sym, ◌∙◌, append_assoc, append-nil, map, arith}
use Rattle.std.specs.Prelude.{count_by, option_and_then}
use Rattle.std.proofs.lemmas.List.Sums.{sum_by-cons}
use Rattle.cap_grammar.specs.declared.tree.ObjTok.{ObjTok}
use Rattle.cap_grammar.specs.declared.tree.MorTok.{MorTok}
use Rattle.cap_grammar.specs.declared.tree.Command.{Command}
use Rattle.cap_grammar.specs.declared.tree.Command.TheVariants.{Register, Finalise, Plan, Object, Src, Tgt, Let, Call}
use Rattle.cap_grammar.specs.declared.tree.Item.{Item}
use Rattle.cap_grammar.specs.declared.tree.Item.TheVariants as top
use Rattle.cap_block_faults.specs.Names.{Part, over_of, found}
use Rattle.cap_block_faults.specs.Names as names
use Rattle.cap_faults.specs.declared.values.Value.{Value}
use Rattle.cap_faults.specs.Commands as given
use Rattle.cap_faults.specs.Scripts.{values_behind, SessionCommand, is_category_item}
use Rattle.cap_faults.specs.Scripts as given_scripts
use Rattle.cap_checked.specs.Checked.{parts_behind, placed_command}
use Rattle.cap_checked.specs.Checked as checked
use Rattle.cap_check.specs.Unbuilt.{CheckedPart}
use Rattle.cap_fitting.specs.Values.{bound_by, bound_in, bound_by_part, bound_by_command, values_of_parts, values_of_commands}
use Rattle.cap_fitting.specs.Categories.{over_in, is_category, is_category_named, is_block_named, category_over, has_block, number_of_categories}
use Rattle.cap_fitting.specs.Commands.{Scope, CommandFits}
use Rattle.cap_fitting.proofs.Lists.{heads, tails}

-- a place in a checked prelude is one in the script's
pub record PartAt (start ps : List Part) (before : List CheckedPart) (p : CheckedPart) : Type 0 where
  pub front : List Part
  pub rest : List Part
  pub one : Part
  pub whole : ps ≡ front ++ (one ∷ rest)
  pub same_front : before ≡ parts_behind start front
  pub same : p ≡ checked.part (start ++ front) one

pub part_at : (start ps : List Part) (before behind : List CheckedPart) (p : CheckedPart) → parts_behind start ps ≡ before ++ (p ∷ behind) → PartAt start ps before p
part_at start [] [] behind p e = absurd (let n = ap length e in omega (arith, n))
part_at start [] (z ∷ before) behind p e = absurd (let n = ap length e in omega (arith, n))
part_at start (x ∷ ps) [] behind p e = record {
  front = [];
  rest = ps;
  one = x;
  whole = refl;
  same_front = refl;
  same = sym (heads (checked.part start x) p (parts_behind (start ++ x ∷ []) ps) behind e) ∙ ap (λ l. checked.part l x) (sym (append-nil start));
}
part_at start (x ∷ ps) (z ∷ before) behind p e =
    let first = heads (checked.part start x) z (parts_behind (start ++ x ∷ []) ps) (before ++ (p ∷ behind)) e in
    let more = part_at (start ++ x ∷ []) ps before behind p (tails (checked.part start x) z (parts_behind (start ++ x ∷ []) ps) (before ++ (p ∷ behind)) e) in
    record {
      front = x ∷ more.front;
      rest = more.rest;
      one = more.one;
      whole = ap (λ l. x ∷ l) more.whole;
      same_front = ap (λ l. z ∷ l) more.same_front ∙ ap (λ w. w ∷ parts_behind (start ++ x ∷ []) more.front) (sym first);
      same = more.same ∙ ap (λ l. checked.part l more.one) (append_assoc start (x ∷ []) more.front);
    }

-- categories
over_node : (before : List Part) (n : Item ObjTok MorTok) → over_in (checked.node before n) ≡ names.over_in n
over_node before (top.Block b) = refl
over_node before (top.Category n over) = refl
over_node before (top.Command c) = refl

named_node : (before : List Part) (n : Item ObjTok MorTok) (name : List ℕ) → is_category_named name (checked.node before n) ≡ names.is_category name n
named_node before (top.Block b) name = refl
named_node before (top.Category n over) name = refl
named_node before (top.Command c) name = refl

abbrev named : List ℕ → CheckedPart → Bool
named name p = is_category_named name p.node

over_first : (start : List Part) (x : Part) (ps : List Part) (name : List ℕ) (b : Bool) → category_over (parts_behind (start ++ x ∷ []) ps) name ≡ over_of ps name
    → option_and_then (λ (p : CheckedPart). over_in p.node) (cond b (Some (checked.part start x)) (find (named name) (parts_behind (start ++ x ∷ []) ps))) ≡ found names.over_in None (cond b (Some x) (find (names.is_category_named name) ps))
over_first start x ps name true e = over_node start x.node
over_first start x ps name false e = e

pub same_over : (start ps : List Part) (name : List ℕ) → category_over (parts_behind start ps) name ≡ over_of ps name
same_over start [] name = refl
same_over start (x ∷ ps) name =
    ap (λ b. option_and_then (λ (p : CheckedPart). over_in p.node) (cond b (Some (checked.part start x)) (find (named name) (parts_behind (start ++ x ∷ []) ps)))) (named_node start x.node name)
    ∙ over_first start x ps name (names.is_category name x.node) (same_over (start ++ x ∷ []) ps name)

category_node : (before : List Part) (n : Item ObjTok MorTok) → is_category (checked.node before n) ≡ is_category_item n
category_node before (top.Block b) = refl
category_node before (top.Category n over) = refl
category_node before (top.Command c) = refl

pub same_number : (start ps : List Part) → number_of_categories (parts_behind start ps) ≡ count_by given_scripts.is_category ps
same_number start [] = refl
same_number start (x ∷ ps) =
    let rest = parts_behind (start ++ x ∷ []) ps in
    sum_by-cons (λ (p : CheckedPart). cond (is_category p.node) 1 0) (checked.part start x) rest
    ∙ ap (λ b. cond b 1 0 + number_of_categories rest) (category_node start x.node)
    ∙ ap (λ n. cond (is_category_item x.node) 1 0 + n) (same_number (start ++ x ∷ []) ps)
    ∙ sym (sum_by-cons (λ p. cond (given_scripts.is_category p) 1 0) x ps)

pub same_length : (start ps : List Part) → length (parts_behind start ps) ≡ length ps
same_length start [] = refl
same_length start (x ∷ ps) = let e = same_length (start ++ x ∷ []) ps in omega (arith, e)

-- blocks
block_node : (before : List Part) (n : Item ObjTok MorTok) (name : List ℕ) → is_block_named name (checked.node before n) ≡ names.is_block name n
block_node before (top.Block b) name = refl
block_node before (top.Category n over) name = refl
block_node before (top.Command c) name = refl

pub same_blocks : (start ps : List Part) (name : List ℕ) → has_block (parts_behind start ps) name ≡ names.has_block ps name
same_blocks start [] name = refl
same_blocks start (x ∷ ps) name =
    ap (λ b. b || has_block (parts_behind (start ++ x ∷ []) ps) name) (block_node start x.node name) ∙ ap (λ b. names.is_block name x.node || b) (same_blocks (start ++ x ∷ []) ps name)

-- values
bound_command : (values : List Value) (before : List Part) (c : Command ObjTok MorTok) → bound_by values (checked.command before c) ≡ given.bound_by values c
bound_command values before (Register cat op weight) = refl
bound_command values before (Finalise cat) = refl
bound_command values before (Plan cat) = refl
bound_command values before (Object cat x lit) = refl
bound_command values before (Src x of) = refl
bound_command values before (Tgt x of) = refl
bound_command values before (Let x cat src tgt lit) = refl
bound_command values before (Call x cat op args) = refl

bound_node : (values : List Value) (before : List Part) (n : Item ObjTok MorTok) → bound_in values (checked.node before n) ≡ given_scripts.bound_in values n
bound_node values before (top.Block b) = refl
bound_node values before (top.Category n over) = refl
bound_node values before (top.Command c) = bound_command values before c

parts_bind : (values : List Value) (start ps : List Part) → values_behind bound_by_part values (parts_behind start ps) ≡ values_behind given_scripts.bound_by_part values ps
parts_bind values start [] = refl
parts_bind values start (x ∷ ps) =
    ap (λ l. values_behind bound_by_part (values ++ l) (parts_behind (start ++ x ∷ []) ps)) (bound_node values start x.node)
    ∙ parts_bind (values ++ given_scripts.bound_in values x.node) (start ++ x ∷ []) ps

pub same_values : (ps : List Part) → values_of_parts (parts_behind [] ps) ≡ values_behind given_scripts.bound_by_part [] ps
same_values ps = parts_bind [] [] ps

pub same_command_values : (values : List Value) (parts : List Part) (cs : List SessionCommand) → values_of_commands values (map (placed_command parts) cs) ≡ values_behind given_scripts.bound_by_command values cs
same_command_values values parts [] = refl
same_command_values values parts (c ∷ cs) =
    ap (λ l. values_behind bound_by_command (values ++ l) (map (placed_command parts) cs)) (bound_command values parts c.node)
    ∙ same_command_values (values ++ given.bound_by values c.node) parts cs

-- a command fits whatever its literal is
pub same_fits : (s : Scope) (before : List Part) (c : Command ObjTok MorTok) → CommandFits s c → CommandFits s (checked.command before c)
same_fits s before (Register cat op weight) h = h
same_fits s before (Finalise cat) h = h
same_fits s before (Plan cat) h = h
same_fits s before (Object cat x lit) h = h
same_fits s before (Src x of) h = h
same_fits s before (Tgt x of) h = h
same_fits s before (Let x cat src tgt lit) h = h
same_fits s before (Call x cat op args) h = h

pub given_fits : (s : Scope) (before : List Part) (c : Command ObjTok MorTok) → CommandFits s (checked.command before c) → CommandFits s c
given_fits s before (Register cat op weight) h = h
given_fits s before (Finalise cat) h = h
given_fits s before (Plan cat) h = h
given_fits s before (Object cat x lit) h = h
given_fits s before (Src x of) h = h
given_fits s before (Tgt x of) h = h
given_fits s before (Let x cat src tgt lit) h = h
given_fits s before (Call x cat op args) h = h

-- the checked form of two lists of parts
pub parts_append : (start ps qs : List Part) → parts_behind start (ps ++ qs) ≡ parts_behind start ps ++ parts_behind (start ++ ps) qs
parts_append start [] qs = ap (λ l. parts_behind l qs) (sym (append-nil start))
parts_append start (x ∷ ps) qs =
    ap (λ l. checked.part start x ∷ l) (parts_append (start ++ x ∷ []) ps qs)
    ∙ ap (λ l. checked.part start x ∷ (parts_behind (start ++ x ∷ []) ps ++ parts_behind l qs)) (append_assoc start (x ∷ []) ps)
