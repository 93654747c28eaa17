-- The 44 operations by name.
use Rattle.std.specs.Prelude.{ℕ}
use Rattle.cap_names.specs.declared.identifiers.OpId.{OpId}

-- the operation with a number
abbrev pub operation : ℕ → OpId
operation n = record { 0 = n }

abbrev pub Identity : OpId
Identity = operation 1

abbrev pub Compose : OpId
Compose = operation 2

abbrev pub Zero : OpId
Zero = operation 3

abbrev pub Add : OpId
Add = operation 4

abbrev pub Negate : OpId
Negate = operation 5

abbrev pub Subtract : OpId
Subtract = operation 6

abbrev pub Scale : OpId
Scale = operation 7

abbrev pub IsCongruent : OpId
IsCongruent = operation 8

abbrev pub IsZero : OpId
IsZero = operation 9

abbrev pub ZeroObject : OpId
ZeroObject = operation 10

abbrev pub DirectSum : OpId
DirectSum = operation 11

abbrev pub Product : OpId
Product = operation 12

abbrev pub Coproduct : OpId
Coproduct = operation 13

abbrev pub Pair : OpId
Pair = operation 14

abbrev pub Copair : OpId
Copair = operation 15

abbrev pub Kernel : OpId
Kernel = operation 16

abbrev pub KernelLift : OpId
KernelLift = operation 17

abbrev pub Cokernel : OpId
Cokernel = operation 18

abbrev pub CokernelColift : OpId
CokernelColift = operation 19

abbrev pub WeakKernel : OpId
WeakKernel = operation 20

abbrev pub WeakCokernel : OpId
WeakCokernel = operation 21

abbrev pub Lift : OpId
Lift = operation 22

abbrev pub Colift : OpId
Colift = operation 23

abbrev pub IsMono : OpId
IsMono = operation 24

abbrev pub IsEpi : OpId
IsEpi = operation 25

abbrev pub IsIso : OpId
IsIso = operation 26

abbrev pub IsSplitMono : OpId
IsSplitMono = operation 27

abbrev pub IsSplitEpi : OpId
IsSplitEpi = operation 28

abbrev pub Inverse : OpId
Inverse = operation 29

abbrev pub Section : OpId
Section = operation 30

abbrev pub Retraction : OpId
Retraction = operation 31

abbrev pub Equalizer : OpId
Equalizer = operation 32

abbrev pub Coequalizer : OpId
Coequalizer = operation 33

abbrev pub Pullback : OpId
Pullback = operation 34

abbrev pub Pushout : OpId
Pushout = operation 35

abbrev pub Image : OpId
Image = operation 36

abbrev pub Coimage : OpId
Coimage = operation 37

abbrev pub KernelMap : OpId
KernelMap = operation 38

abbrev pub CokernelMap : OpId
CokernelMap = operation 39

abbrev pub Intersection : OpId
Intersection = operation 40

abbrev pub Union : OpId
Union = operation 41

abbrev pub IsSubobject : OpId
IsSubobject = operation 42

abbrev pub Homology : OpId
Homology = operation 43

abbrev pub IsExact : OpId
IsExact = operation 44
