-- How reserved words and marks are written before other bytes.
use Rattle.std.proofs.Common.{◌≡◌, ◌≤◌, ℕ, List, [], ◌∷◌, ◌++◌, length, true, false, Some, refl, sym, subst, arith}
use Rattle.std.proofs.Math.Dec.{lit≤}
use Rattle.std.specs.Prelude.{◌==◌, codes}
use Rattle.std.specs.List.{list_all}
use Rattle.std.specs.Char.{is_ascii_digit, is_ascii_alphabetic}
use Rattle.std.proofs.lemmas.List.Sums.{AllPass-from_list_all}
use Rattle.cap_names.specs.Words.{is_word_byte, IsWord}
use Rattle.cap_names.specs.declared.token.PieceKind.TheVariants.{Mark}
use Rattle.cap_names.specs.Tokens.{kind_of}
use Rattle.cap_names.proofs.Written.{IsWritten, written_append, written_newline, written_mark, written_dash, written_arrow, written_word}
use Rattle.cap_grammar.specs.declared.symbol.Fixed.{Fixed}
use Rattle.cap_grammar.specs.declared.symbol.Fixed.TheVariants as word
use Rattle.cap_grammar.specs.declared.symbol.Symbol.TheVariants as symbol
use Rattle.cap_grammar.specs.Texts.{fixed_text}
use Rattle.cap_grammar.specs.Scripts.{is_newline}
use Rattle.cap_printer.specs.Texts.{opens, closes}

-- a byte with which neither a word nor a number nor a dash goes on
pub record Stops (b : ℕ) : Type 0 where
  pub word : is_word_byte b ≡ false
  pub digit : is_ascii_digit b ≡ false
  pub arrow : (b == 62) ≡ false

pub blank_stops : Stops 32
blank_stops = record { word = refl; digit = refl; arrow = refl }

-- a list that begins with a byte other than >
pub record Begins (bs : List ℕ) : Type 0 where
  pub first : ℕ
  pub others : List ℕ
  pub all : bs ≡ first ∷ others
  pub arrow : (first == 62) ≡ false

is_word : (b : ℕ) (bs : List ℕ) → is_ascii_alphabetic b ≡ true → list_all is_word_byte (b ∷ bs) ≡ true → length (b ∷ bs) ≤ 32 → IsWord (b ∷ bs)
is_word b bs letter all within = record { some = omega arith; within = within; letter = letter; all = AllPass-from_list_all is_word_byte (b ∷ bs) all }

-- a mark of one byte
one : (b : ℕ) (bs : List ℕ) (texts : List (List ℕ)) → kind_of b ≡ Some Mark → IsWritten bs texts → IsWritten (b ∷ bs) ((b ∷ []) ∷ texts)
one b bs texts begins w = written_append (b ∷ []) bs ((b ∷ []) ∷ []) texts (written_mark b begins) w

newline : (bs : List ℕ) (texts : List (List ℕ)) → IsWritten bs texts → IsWritten (10 ∷ bs) ((10 ∷ []) ∷ texts)
newline bs texts w = written_append (10 ∷ []) bs ((10 ∷ []) ∷ []) texts written_newline w

-- before a byte with which nothing goes on
pub fixed_before : (w : Fixed) (b : ℕ) (bs : List ℕ) (texts : List (List ℕ)) → Stops b → IsWritten (b ∷ bs) texts → IsWritten (fixed_text w ++ b ∷ bs) (fixed_text w ∷ texts)
fixed_before word.Table b bs texts s w = written_word (codes "table") b bs texts (is_word 116 (codes "able") refl refl (lit≤ tt)) s.word w
fixed_before word.Quiver b bs texts s w = written_word (codes "quiver") b bs texts (is_word 113 (codes "uiver") refl refl (lit≤ tt)) s.word w
fixed_before word.Prime b bs texts s w = written_word (codes "prime") b bs texts (is_word 112 (codes "rime") refl refl (lit≤ tt)) s.word w
fixed_before word.Bound b bs texts s w = written_word (codes "bound") b bs texts (is_word 98 (codes "ound") refl refl (lit≤ tt)) s.word w
fixed_before word.Objects b bs texts s w = written_word (codes "objects") b bs texts (is_word 111 (codes "bjects") refl refl (lit≤ tt)) s.word w
fixed_before word.Basis b bs texts s w = written_word (codes "basis") b bs texts (is_word 98 (codes "asis") refl refl (lit≤ tt)) s.word w
fixed_before word.Unit b bs texts s w = written_word (codes "unit") b bs texts (is_word 117 (codes "nit") refl refl (lit≤ tt)) s.word w
fixed_before word.Product b bs texts s w = written_word (codes "product") b bs texts (is_word 112 (codes "roduct") refl refl (lit≤ tt)) s.word w
fixed_before word.Arrow b bs texts s w = written_word (codes "arrow") b bs texts (is_word 97 (codes "rrow") refl refl (lit≤ tt)) s.word w
fixed_before word.Relation b bs texts s w = written_word (codes "relation") b bs texts (is_word 114 (codes "elation") refl refl (lit≤ tt)) s.word w
fixed_before word.End b bs texts s w = written_word (codes "end") b bs texts (is_word 101 (codes "nd") refl refl (lit≤ tt)) s.word w
fixed_before word.Category b bs texts s w = written_word (codes "category") b bs texts (is_word 99 (codes "ategory") refl refl (lit≤ tt)) s.word w
fixed_before word.Vec b bs texts s w = written_word (codes "vec") b bs texts (is_word 118 (codes "ec") refl refl (lit≤ tt)) s.word w
fixed_before word.Add b bs texts s w = written_word (codes "add") b bs texts (is_word 97 (codes "dd") refl refl (lit≤ tt)) s.word w
fixed_before word.Freyd b bs texts s w = written_word (codes "freyd") b bs texts (is_word 102 (codes "reyd") refl refl (lit≤ tt)) s.word w
fixed_before word.Rep b bs texts s w = written_word (codes "rep") b bs texts (is_word 114 (codes "ep") refl refl (lit≤ tt)) s.word w
fixed_before word.Session b bs texts s w = written_word (codes "session") b bs texts (is_word 115 (codes "ession") refl refl (lit≤ tt)) s.word w
fixed_before word.Register b bs texts s w = written_word (codes "register") b bs texts (is_word 114 (codes "egister") refl refl (lit≤ tt)) s.word w
fixed_before word.Finalise b bs texts s w = written_word (codes "finalise") b bs texts (is_word 102 (codes "inalise") refl refl (lit≤ tt)) s.word w
fixed_before word.Plan b bs texts s w = written_word (codes "plan") b bs texts (is_word 112 (codes "lan") refl refl (lit≤ tt)) s.word w
fixed_before word.Object b bs texts s w = written_word (codes "object") b bs texts (is_word 111 (codes "bject") refl refl (lit≤ tt)) s.word w
fixed_before word.Let b bs texts s w = written_word (codes "let") b bs texts (is_word 108 (codes "et") refl refl (lit≤ tt)) s.word w
fixed_before word.Src b bs texts s w = written_word (codes "src") b bs texts (is_word 115 (codes "rc") refl refl (lit≤ tt)) s.word w
fixed_before word.Tgt b bs texts s w = written_word (codes "tgt") b bs texts (is_word 116 (codes "gt") refl refl (lit≤ tt)) s.word w
fixed_before word.Dims b bs texts s w = written_word (codes "dims") b bs texts (is_word 100 (codes "ims") refl refl (lit≤ tt)) s.word w
fixed_before word.Maps b bs texts s w = written_word (codes "maps") b bs texts (is_word 109 (codes "aps") refl refl (lit≤ tt)) s.word w
fixed_before word.To b bs texts s w = written_arrow b bs texts s.arrow w
fixed_before word.Open b bs texts s w = one 91 (b ∷ bs) texts refl w
fixed_before word.Close b bs texts s w = one 93 (b ∷ bs) texts refl w
fixed_before word.OpenRound b bs texts s w = one 40 (b ∷ bs) texts refl w
fixed_before word.CloseRound b bs texts s w = one 41 (b ∷ bs) texts refl w
fixed_before word.OpenBrace b bs texts s w = one 123 (b ∷ bs) texts refl w
fixed_before word.CloseBrace b bs texts s w = one 125 (b ∷ bs) texts refl w
fixed_before word.Semicolon b bs texts s w = one 59 (b ∷ bs) texts refl w
fixed_before word.Equals b bs texts s w = one 61 (b ∷ bs) texts refl w
fixed_before word.Dot b bs texts s w = one 46 (b ∷ bs) texts refl w
fixed_before word.Star b bs texts s w = one 42 (b ∷ bs) texts refl w
fixed_before word.Plus b bs texts s w = one 43 (b ∷ bs) texts refl w
fixed_before word.Minus b bs texts s w = written_dash b bs texts s.arrow w
fixed_before word.Newline b bs texts s w = newline (b ∷ bs) texts w

-- behind an opening one anything but > may stand
dash : (bs : List ℕ) (texts : List (List ℕ)) → Begins bs → IsWritten bs texts → IsWritten (45 ∷ bs) ((45 ∷ []) ∷ texts)
dash bs texts begins w = subst (λ l. IsWritten (45 ∷ l) ((45 ∷ []) ∷ texts)) (sym begins.all) (written_dash begins.first begins.others texts begins.arrow (subst (λ l. IsWritten l texts) begins.all w))

pub fixed_opens : (w : Fixed) (bs : List ℕ) (texts : List (List ℕ)) → opens (symbol.Fixed w) ≡ true → Begins bs → IsWritten bs texts → IsWritten (fixed_text w ++ bs) (fixed_text w ∷ texts)
fixed_opens word.Table bs texts h begins w = cc
fixed_opens word.Quiver bs texts h begins w = cc
fixed_opens word.Prime bs texts h begins w = cc
fixed_opens word.Bound bs texts h begins w = cc
fixed_opens word.Objects bs texts h begins w = cc
fixed_opens word.Basis bs texts h begins w = cc
fixed_opens word.Unit bs texts h begins w = cc
fixed_opens word.Product bs texts h begins w = cc
fixed_opens word.Arrow bs texts h begins w = cc
fixed_opens word.Relation bs texts h begins w = cc
fixed_opens word.End bs texts h begins w = cc
fixed_opens word.Category bs texts h begins w = cc
fixed_opens word.Vec bs texts h begins w = cc
fixed_opens word.Add bs texts h begins w = cc
fixed_opens word.Freyd bs texts h begins w = cc
fixed_opens word.Rep bs texts h begins w = cc
fixed_opens word.Session bs texts h begins w = cc
fixed_opens word.Register bs texts h begins w = cc
fixed_opens word.Finalise bs texts h begins w = cc
fixed_opens word.Plan bs texts h begins w = cc
fixed_opens word.Object bs texts h begins w = cc
fixed_opens word.Let bs texts h begins w = cc
fixed_opens word.Src bs texts h begins w = cc
fixed_opens word.Tgt bs texts h begins w = cc
fixed_opens word.Dims bs texts h begins w = cc
fixed_opens word.Maps bs texts h begins w = cc
fixed_opens word.To bs texts h begins w = cc
fixed_opens word.Open bs texts h begins w = one 91 bs texts refl w
fixed_opens word.Close bs texts h begins w = cc
fixed_opens word.OpenRound bs texts h begins w = one 40 bs texts refl w
fixed_opens word.CloseRound bs texts h begins w = cc
fixed_opens word.OpenBrace bs texts h begins w = one 123 bs texts refl w
fixed_opens word.CloseBrace bs texts h begins w = cc
fixed_opens word.Semicolon bs texts h begins w = cc
fixed_opens word.Equals bs texts h begins w = cc
fixed_opens word.Dot bs texts h begins w = one 46 bs texts refl w
fixed_opens word.Star bs texts h begins w = one 42 bs texts refl w
fixed_opens word.Plus bs texts h begins w = cc
fixed_opens word.Minus bs texts h begins w = dash bs texts begins w
fixed_opens word.Newline bs texts h begins w = newline bs texts w

-- a closing one is a byte with which nothing goes on
pub record Closes (bs : List ℕ) : Type 0 where
  pub byte : ℕ
  pub all : bs ≡ byte ∷ []
  pub stops : Stops byte

pub fixed_closes : (w : Fixed) → closes (symbol.Fixed w) ≡ true → Closes (fixed_text w)
fixed_closes word.Table h = cc
fixed_closes word.Quiver h = cc
fixed_closes word.Prime h = cc
fixed_closes word.Bound h = cc
fixed_closes word.Objects h = cc
fixed_closes word.Basis h = cc
fixed_closes word.Unit h = cc
fixed_closes word.Product h = cc
fixed_closes word.Arrow h = cc
fixed_closes word.Relation h = cc
fixed_closes word.End h = cc
fixed_closes word.Category h = cc
fixed_closes word.Vec h = cc
fixed_closes word.Add h = cc
fixed_closes word.Freyd h = cc
fixed_closes word.Rep h = cc
fixed_closes word.Session h = cc
fixed_closes word.Register h = cc
fixed_closes word.Finalise h = cc
fixed_closes word.Plan h = cc
fixed_closes word.Object h = cc
fixed_closes word.Let h = cc
fixed_closes word.Src h = cc
fixed_closes word.Tgt h = cc
fixed_closes word.Dims h = cc
fixed_closes word.Maps h = cc
fixed_closes word.To h = cc
fixed_closes word.Open h = cc
fixed_closes word.Close h = record { byte = 93; all = refl; stops = record { word = refl; digit = refl; arrow = refl } }
fixed_closes word.OpenRound h = cc
fixed_closes word.CloseRound h = record { byte = 41; all = refl; stops = record { word = refl; digit = refl; arrow = refl } }
fixed_closes word.OpenBrace h = cc
fixed_closes word.CloseBrace h = record { byte = 125; all = refl; stops = record { word = refl; digit = refl; arrow = refl } }
fixed_closes word.Semicolon h = record { byte = 59; all = refl; stops = record { word = refl; digit = refl; arrow = refl } }
fixed_closes word.Equals h = cc
fixed_closes word.Dot h = record { byte = 46; all = refl; stops = record { word = refl; digit = refl; arrow = refl } }
fixed_closes word.Star h = record { byte = 42; all = refl; stops = record { word = refl; digit = refl; arrow = refl } }
fixed_closes word.Plus h = cc
fixed_closes word.Minus h = cc
fixed_closes word.Newline h = record { byte = 10; all = refl; stops = record { word = refl; digit = refl; arrow = refl } }

pub fixed_begins : (w : Fixed) → Begins (fixed_text w)
fixed_begins word.Table = record { first = 116; others = codes "able"; all = refl; arrow = refl }
fixed_begins word.Quiver = record { first = 113; others = codes "uiver"; all = refl; arrow = refl }
fixed_begins word.Prime = record { first = 112; others = codes "rime"; all = refl; arrow = refl }
fixed_begins word.Bound = record { first = 98; others = codes "ound"; all = refl; arrow = refl }
fixed_begins word.Objects = record { first = 111; others = codes "bjects"; all = refl; arrow = refl }
fixed_begins word.Basis = record { first = 98; others = codes "asis"; all = refl; arrow = refl }
fixed_begins word.Unit = record { first = 117; others = codes "nit"; all = refl; arrow = refl }
fixed_begins word.Product = record { first = 112; others = codes "roduct"; all = refl; arrow = refl }
fixed_begins word.Arrow = record { first = 97; others = codes "rrow"; all = refl; arrow = refl }
fixed_begins word.Relation = record { first = 114; others = codes "elation"; all = refl; arrow = refl }
fixed_begins word.End = record { first = 101; others = codes "nd"; all = refl; arrow = refl }
fixed_begins word.Category = record { first = 99; others = codes "ategory"; all = refl; arrow = refl }
fixed_begins word.Vec = record { first = 118; others = codes "ec"; all = refl; arrow = refl }
fixed_begins word.Add = record { first = 97; others = codes "dd"; all = refl; arrow = refl }
fixed_begins word.Freyd = record { first = 102; others = codes "reyd"; all = refl; arrow = refl }
fixed_begins word.Rep = record { first = 114; others = codes "ep"; all = refl; arrow = refl }
fixed_begins word.Session = record { first = 115; others = codes "ession"; all = refl; arrow = refl }
fixed_begins word.Register = record { first = 114; others = codes "egister"; all = refl; arrow = refl }
fixed_begins word.Finalise = record { first = 102; others = codes "inalise"; all = refl; arrow = refl }
fixed_begins word.Plan = record { first = 112; others = codes "lan"; all = refl; arrow = refl }
fixed_begins word.Object = record { first = 111; others = codes "bject"; all = refl; arrow = refl }
fixed_begins word.Let = record { first = 108; others = codes "et"; all = refl; arrow = refl }
fixed_begins word.Src = record { first = 115; others = codes "rc"; all = refl; arrow = refl }
fixed_begins word.Tgt = record { first = 116; others = codes "gt"; all = refl; arrow = refl }
fixed_begins word.Dims = record { first = 100; others = codes "ims"; all = refl; arrow = refl }
fixed_begins word.Maps = record { first = 109; others = codes "aps"; all = refl; arrow = refl }
fixed_begins word.To = record { first = 45; others = codes ">"; all = refl; arrow = refl }
fixed_begins word.Open = record { first = 91; others = []; all = refl; arrow = refl }
fixed_begins word.Close = record { first = 93; others = []; all = refl; arrow = refl }
fixed_begins word.OpenRound = record { first = 40; others = []; all = refl; arrow = refl }
fixed_begins word.CloseRound = record { first = 41; others = []; all = refl; arrow = refl }
fixed_begins word.OpenBrace = record { first = 123; others = []; all = refl; arrow = refl }
fixed_begins word.CloseBrace = record { first = 125; others = []; all = refl; arrow = refl }
fixed_begins word.Semicolon = record { first = 59; others = []; all = refl; arrow = refl }
fixed_begins word.Equals = record { first = 61; others = []; all = refl; arrow = refl }
fixed_begins word.Dot = record { first = 46; others = []; all = refl; arrow = refl }
fixed_begins word.Star = record { first = 42; others = []; all = refl; arrow = refl }
fixed_begins word.Plus = record { first = 43; others = []; all = refl; arrow = refl }
fixed_begins word.Minus = record { first = 45; others = []; all = refl; arrow = refl }
fixed_begins word.Newline = record { first = 10; others = []; all = refl; arrow = refl }

pub fixed_last : (w : Fixed) → is_newline (symbol.Fixed w) ≡ true → IsWritten (fixed_text w ++ []) (fixed_text w ∷ [])
fixed_last word.Table h = cc
fixed_last word.Quiver h = cc
fixed_last word.Prime h = cc
fixed_last word.Bound h = cc
fixed_last word.Objects h = cc
fixed_last word.Basis h = cc
fixed_last word.Unit h = cc
fixed_last word.Product h = cc
fixed_last word.Arrow h = cc
fixed_last word.Relation h = cc
fixed_last word.End h = cc
fixed_last word.Category h = cc
fixed_last word.Vec h = cc
fixed_last word.Add h = cc
fixed_last word.Freyd h = cc
fixed_last word.Rep h = cc
fixed_last word.Session h = cc
fixed_last word.Register h = cc
fixed_last word.Finalise h = cc
fixed_last word.Plan h = cc
fixed_last word.Object h = cc
fixed_last word.Let h = cc
fixed_last word.Src h = cc
fixed_last word.Tgt h = cc
fixed_last word.Dims h = cc
fixed_last word.Maps h = cc
fixed_last word.To h = cc
fixed_last word.Open h = cc
fixed_last word.Close h = cc
fixed_last word.OpenRound h = cc
fixed_last word.CloseRound h = cc
fixed_last word.OpenBrace h = cc
fixed_last word.CloseBrace h = cc
fixed_last word.Semicolon h = cc
fixed_last word.Equals h = cc
fixed_last word.Dot h = cc
fixed_last word.Star h = cc
fixed_last word.Plus h = cc
fixed_last word.Minus h = cc
fixed_last word.Newline h = written_newline
