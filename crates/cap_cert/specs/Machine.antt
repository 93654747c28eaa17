-- Reading certificates token by token, for the private functions of the reader.
use Rattle.std.specs.Prelude.{◌≡◌, ℕ, ◌<◌, ◌≤◌, ◌==◌, ◌&&◌, not, suc, List, [], ◌∷◌, length, Option, Some, None, Bool, true, false, codes, bytes_eq, nat_lt, if◌then◌else◌, slice_index}
use Rattle.std.specs.List.{list_all, list_any}
use Rattle.std.specs.Char.{is_ascii_digit, is_ascii_alphabetic}
use Rattle.cap_names.specs.Words.{is_word_byte}
use Rattle.cap_names.specs.Operations.{operation_names}
use Rattle.cap_ops.specs.declared.plans.Kind.{Kind}
use Rattle.cap_ops.specs.declared.plans.Kind.TheVariants.{Mat, Add, Freyd, Rep}
use Rattle.cap_ops.specs.declared.plans.TheConstants.{OPERATIONS, NO_PLAN, MOST_WEIGHT}
use Rattle.cap_cert.specs.declared.machine.Next.{Next}
use Rattle.cap_cert.specs.declared.machine.Next.TheVariants as next
use Rattle.cap_cert.specs.declared.machine.State.{State}
use Rattle.cap_cert.specs.Texts.{operation_word}
use Rattle.cap_cert.specs.Reading.{script_words, value, line_end}

-- the text is this word
unfoldable pub is : List ℕ → List ℕ → Bool
is word text = bytes_eq text word

unfoldable pub is_number : List ℕ → Bool
is_number text = nat_lt 0 (length text) && (nat_lt (length text) 17 && list_all is_ascii_digit text)

unfoldable pub is_word_text : List ℕ → Bool
is_word_text text = nat_lt 0 (length text) && (nat_lt (length text) 33 && (is_ascii_alphabetic (slice_index text 0) && list_all is_word_byte text))

unfoldable pub is_name : List ℕ → Bool
is_name text =
    is_word_text text && (not (list_any (bytes_eq text) script_words) && not (list_any (bytes_eq text) operation_names))

-- the number is from low to high, where the limits are asked for
unfoldable pub is_within : Bool → ℕ → ℕ → List ℕ → Bool
is_within false low high text = is_number text
is_within true low high text = is_number text && (not (nat_lt (value text) low) && not (nat_lt high (value text)))

-- the kind of this word
unfoldable pub kind_named : List ℕ → Option Kind
kind_named text =
    if bytes_eq text (codes "vec") then Some Mat
    else (if bytes_eq text (codes "add") then Some Add
    else (if bytes_eq text (codes "freyd") then Some Freyd
    else (if bytes_eq text (codes "rep") then Some Rep
    else None)))

-- the place of the operation of this name, the first of the names being at a place
abbrev pub place_from : ℕ → List (List ℕ) → List ℕ → Option ℕ
place_from place [] text = None
place_from place (name ∷ names) text = if bytes_eq text name then Some place else place_from (suc place) names text

unfoldable pub place_of : List ℕ → Option ℕ
place_of text = place_from 0 operation_names text

-- to where, if the test passes
abbrev pub go : Bool → Next → Option Next
go true to = Some to
go false to = None

-- a certificate may begin behind so many
unfoldable pub may_begin : Bool → ℕ → Bool
may_begin false read = true
may_begin true read = nat_lt read 16

abbrev pub kind_goes : Option Kind → Option Next
kind_goes None = None
kind_goes (Some kind) = Some next.HeadEnd

abbrev pub reg_goes : ℕ → Option ℕ → Option Next
reg_goes place None = None
reg_goes place (Some p) = go (not (nat_lt p place)) (next.Weight p)

abbrev pub line_goes : ℕ → Bool → Bool → Option Next
line_goes place true other = go (nat_lt place OPERATIONS) (next.RegName place)
line_goes place false other = go other (next.OpName 0)

abbrev pub op_goes : ℕ → Bool → Bool → Bool → Option Next
op_goes place true op end = go op (next.OpName place)
op_goes place false op end = go end next.LastEnd

abbrev pub way_goes : ℕ → Bool → Bool → Bool → Option Next
way_goes place true rule missing = Some (next.Bound place)
way_goes place false true missing = Some (next.Rule place)
way_goes place false false missing = go missing (next.OpEnd place)

-- what comes behind a token, where the token can come
abbrev pub next_by : Bool → ℕ → Next → List ℕ → Option Next
next_by strict read next.Start text = go (is (codes "certificate") text && may_begin strict read) next.Version
next_by strict read next.Version text = go (is_number text && value text == 1) next.Name
next_by strict read next.Name text = go (is_name text) next.Kind
next_by strict read next.Kind text = kind_goes (kind_named text)
next_by strict read next.HeadEnd text = go (is line_end text) (next.Line 0)
next_by strict read (next.Line place) text = line_goes place (is (codes "reg") text) (is (codes "op") text)
next_by strict read (next.RegName place) text = reg_goes place (place_of text)
next_by strict read (next.Weight place) text = go (is_within strict 1 MOST_WEIGHT text) (next.RegEnd place)
next_by strict read (next.RegEnd place) text = go (is line_end text) (next.Line (suc place))
next_by strict read (next.OpLine place) text = op_goes place (nat_lt place OPERATIONS) (is (codes "op") text) (is (codes "end") text)
next_by strict read (next.OpName place) text = go (is (operation_word place) text) (next.Way place)
next_by strict read (next.Way place) text = way_goes place (is (codes "prim") text) (is (codes "rule") text) (is (codes "missing") text)
next_by strict read (next.Rule place) text = go (is_within strict 1 59 text) (next.Bound place)
next_by strict read (next.Bound place) text = go (is_within strict 0 NO_PLAN text) (next.OpEnd place)
next_by strict read (next.OpEnd place) text = go (is line_end text) (next.OpLine (suc place))
next_by strict read next.LastEnd text = go (is line_end text) next.Start

-- how many certificates are read behind a token
abbrev pub read_behind : ℕ → Next → ℕ
read_behind read next.LastEnd = suc read
read_behind read next.Start = read
read_behind read next.Version = read
read_behind read next.Name = read
read_behind read next.Kind = read
read_behind read next.HeadEnd = read
read_behind read (next.Line place) = read
read_behind read (next.RegName place) = read
read_behind read (next.Weight place) = read
read_behind read (next.RegEnd place) = read
read_behind read (next.OpLine place) = read
read_behind read (next.OpName place) = read
read_behind read (next.Way place) = read
read_behind read (next.Rule place) = read
read_behind read (next.Bound place) = read
read_behind read (next.OpEnd place) = read

abbrev pub state_of : ℕ → Option Next → Option State
state_of read None = None
state_of read (Some after) = Some (record { read = read; next = after })

-- the state behind a token
abbrev pub step : Bool → State → List ℕ → Option State
step strict s text = state_of (read_behind s.read s.next) (next_by strict s.read s.next text)

-- the state behind tokens
abbrev pub run : Bool → Option State → List (List ℕ) → Option State
run strict None texts = None
run strict (Some s) [] = Some s
run strict (Some s) (text ∷ texts) = run strict (step strict s text) texts

abbrev pub begun : State
begun = record { read = 0; next = next.Start }

-- a text may end here
abbrev pub may_end : State → Type 0
may_end s = (s.next ≡ next.Start) × (1 ≤ s.read)

-- the places are those of operations, and no strict text has more than 16 certificates
abbrev pub IsInsideNext : Bool → ℕ → Next → Type 0
IsInsideNext strict read next.Start = strict ≡ true → read ≤ 16
IsInsideNext strict read next.Version = strict ≡ true → read < 16
IsInsideNext strict read next.Name = strict ≡ true → read < 16
IsInsideNext strict read next.Kind = strict ≡ true → read < 16
IsInsideNext strict read next.HeadEnd = strict ≡ true → read < 16
IsInsideNext strict read (next.Line place) = (strict ≡ true → read < 16) × (place ≤ OPERATIONS)
IsInsideNext strict read (next.RegName place) = (strict ≡ true → read < 16) × (place < OPERATIONS)
IsInsideNext strict read (next.Weight place) = (strict ≡ true → read < 16) × (place < OPERATIONS)
IsInsideNext strict read (next.RegEnd place) = (strict ≡ true → read < 16) × (place < OPERATIONS)
IsInsideNext strict read (next.OpLine place) = (strict ≡ true → read < 16) × (place ≤ OPERATIONS)
IsInsideNext strict read (next.OpName place) = (strict ≡ true → read < 16) × (place < OPERATIONS)
IsInsideNext strict read (next.Way place) = (strict ≡ true → read < 16) × (place < OPERATIONS)
IsInsideNext strict read (next.Rule place) = (strict ≡ true → read < 16) × (place < OPERATIONS)
IsInsideNext strict read (next.Bound place) = (strict ≡ true → read < 16) × (place < OPERATIONS)
IsInsideNext strict read (next.OpEnd place) = (strict ≡ true → read < 16) × (place < OPERATIONS)
IsInsideNext strict read next.LastEnd = strict ≡ true → read < 16

abbrev pub IsInside : Bool → State → Type 0
IsInside strict s = IsInsideNext strict s.read s.next
