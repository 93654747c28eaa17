-- All reserved words and marks.
use Rattle.std.specs.Prelude.{List, [], ◌∷◌}
use Rattle.cap_grammar.specs.declared.symbol.Fixed.{Fixed}
use Rattle.cap_grammar.specs.declared.symbol.Fixed.TheVariants as word

abbrev pub all_fixed : List Fixed
all_fixed =
    word.Table ∷
    word.Quiver ∷
    word.Prime ∷
    word.Bound ∷
    word.Objects ∷
    word.Basis ∷
    word.Unit ∷
    word.Product ∷
    word.Arrow ∷
    word.Relation ∷
    word.End ∷
    word.Category ∷
    word.Vec ∷
    word.Add ∷
    word.Freyd ∷
    word.Rep ∷
    word.Session ∷
    word.Register ∷
    word.Finalise ∷
    word.Plan ∷
    word.Object ∷
    word.Let ∷
    word.Src ∷
    word.Tgt ∷
    word.Dims ∷
    word.Maps ∷
    word.To ∷
    word.Open ∷
    word.Close ∷
    word.OpenRound ∷
    word.CloseRound ∷
    word.OpenBrace ∷
    word.CloseBrace ∷
    word.Semicolon ∷
    word.Equals ∷
    word.Dot ∷
    word.Star ∷
    word.Plus ∷
    word.Minus ∷
    word.Newline ∷
    []
