-- The bodies of the rules by number.
use Rattle.std.proofs.Common.{ℕ, zero, suc, List, [], ◌∷◌}
use Rattle.cap_terms.specs.declared.body.Body.{Body}
use Rattle.cap_rules.specs.Lines.{Line, variable}
use Rattle.cap_rules.specs.Table.{lines}

abbrev body-of : Line → Body
body-of l = let written = l.body l.params in record { params = l.params; steps = written.steps; answer = variable written.value }

abbrev body-at : List Line → ℕ → Body
body-at [] n = record { params = 0; steps = []; answer = variable 0 }
body-at (l ∷ ls) zero = body-of l
body-at (l ∷ ls) (suc n) = body-at ls n

abbrev pub rule-1 : Body
rule-1 = body-at lines 0

abbrev pub rule-2 : Body
rule-2 = body-at lines 1

abbrev pub rule-3 : Body
rule-3 = body-at lines 2

abbrev pub rule-4 : Body
rule-4 = body-at lines 3

abbrev pub rule-5 : Body
rule-5 = body-at lines 4

abbrev pub rule-6 : Body
rule-6 = body-at lines 5

abbrev pub rule-7 : Body
rule-7 = body-at lines 6

abbrev pub rule-8 : Body
rule-8 = body-at lines 7

abbrev pub rule-9 : Body
rule-9 = body-at lines 8

abbrev pub rule-10 : Body
rule-10 = body-at lines 9

abbrev pub rule-11 : Body
rule-11 = body-at lines 10

abbrev pub rule-12 : Body
rule-12 = body-at lines 11

abbrev pub rule-13 : Body
rule-13 = body-at lines 12

abbrev pub rule-14 : Body
rule-14 = body-at lines 13

abbrev pub rule-15 : Body
rule-15 = body-at lines 14

abbrev pub rule-16 : Body
rule-16 = body-at lines 15

abbrev pub rule-17 : Body
rule-17 = body-at lines 16

abbrev pub rule-18 : Body
rule-18 = body-at lines 17

abbrev pub rule-19 : Body
rule-19 = body-at lines 18

abbrev pub rule-20 : Body
rule-20 = body-at lines 19

abbrev pub rule-21 : Body
rule-21 = body-at lines 20

abbrev pub rule-22 : Body
rule-22 = body-at lines 21

abbrev pub rule-23 : Body
rule-23 = body-at lines 22

abbrev pub rule-24 : Body
rule-24 = body-at lines 23

abbrev pub rule-25 : Body
rule-25 = body-at lines 24

abbrev pub rule-26 : Body
rule-26 = body-at lines 25

abbrev pub rule-27 : Body
rule-27 = body-at lines 26

abbrev pub rule-28 : Body
rule-28 = body-at lines 27

abbrev pub rule-29 : Body
rule-29 = body-at lines 28

abbrev pub rule-30 : Body
rule-30 = body-at lines 29

abbrev pub rule-31 : Body
rule-31 = body-at lines 30

abbrev pub rule-32 : Body
rule-32 = body-at lines 31

abbrev pub rule-33 : Body
rule-33 = body-at lines 32

abbrev pub rule-34 : Body
rule-34 = body-at lines 33

abbrev pub rule-35 : Body
rule-35 = body-at lines 34

abbrev pub rule-36 : Body
rule-36 = body-at lines 35

abbrev pub rule-37 : Body
rule-37 = body-at lines 36

abbrev pub rule-38 : Body
rule-38 = body-at lines 37

abbrev pub rule-39 : Body
rule-39 = body-at lines 38

abbrev pub rule-40 : Body
rule-40 = body-at lines 39

abbrev pub rule-41 : Body
rule-41 = body-at lines 40

abbrev pub rule-42 : Body
rule-42 = body-at lines 41

abbrev pub rule-43 : Body
rule-43 = body-at lines 42

abbrev pub rule-44 : Body
rule-44 = body-at lines 43

abbrev pub rule-45 : Body
rule-45 = body-at lines 44

abbrev pub rule-46 : Body
rule-46 = body-at lines 45

abbrev pub rule-47 : Body
rule-47 = body-at lines 46

abbrev pub rule-48 : Body
rule-48 = body-at lines 47

abbrev pub rule-49 : Body
rule-49 = body-at lines 48

abbrev pub rule-50 : Body
rule-50 = body-at lines 49

abbrev pub rule-51 : Body
rule-51 = body-at lines 50

abbrev pub rule-52 : Body
rule-52 = body-at lines 51

abbrev pub rule-53 : Body
rule-53 = body-at lines 52

abbrev pub rule-54 : Body
rule-54 = body-at lines 53

abbrev pub rule-55 : Body
rule-55 = body-at lines 54

abbrev pub rule-56 : Body
rule-56 = body-at lines 55

abbrev pub rule-57 : Body
rule-57 = body-at lines 56

abbrev pub rule-58 : Body
rule-58 = body-at lines 57

abbrev pub rule-59 : Body
rule-59 = body-at lines 58
