-- The legs of a list: between commas, each a side, a component and, if said, a ratio.
use Rattle.std.specs.Prelude.{ℕ, Bool, true, false, cond, not, List, [], ◌∷◌, Some, None, Option}
use Rattle.std.specs.List.{slice_split}
use Rattle.terms.specs.declared.leg.Leg.{Leg}
use Rattle.terms.specs.declared.side.Side.{Side}
use Rattle.terms.specs.declared.side.Side.TheVariants.{Buy, Sell}
use Rattle.script.specs.declared.keyword.Keyword.{Keyword}
use Rattle.script.specs.declared.keyword.Keyword.TheVariants.{Buy as BuyWord, Sell as SellWord, Ratio}
use Rattle.script.specs.declared.word.Word.{Word}
use Rattle.script.specs.declared.word.Word.TheVariants.{Key, Comma, Number, Negative}
use Rattle.script.specs.Forms.{and_then, ended, key_then, number_then, one_of}
use Rattle.script.specs.Keywords.{is}

abbrev pub trade_side : Keyword → Option Side
trade_side k = one_of k (BuyWord, Buy) (SellWord, Sell)

-- 1 if not said
abbrev pub ratio_of : List Word → Option ℕ
ratio_of [] = Some 1
ratio_of (w ∷ ws) = key_then (λ k us. cond (is k Ratio) (number_then ended us) None) (w ∷ ws)

abbrev pub leg_with : ℕ → Side → ℕ → Leg
leg_with c s r = record { component = c; side = s; ratio = r }

abbrev pub leg_of : List Word → Option Leg
leg_of ws = key_then (λ k. number_then (λ c us. and_then (trade_side k) (λ s. and_then (ratio_of us) (λ r. Some (leg_with c s r))))) ws

abbrev pub no_comma : Word → Bool
no_comma (Key k) = true
no_comma Comma = false
no_comma (Number n) = true
no_comma (Negative z) = true

-- the words between commas
abbrev pub pieces : List Word → List (List Word)
pieces ws = slice_split (λ w. not (no_comma w)) ws

abbrev pub with_leg : Option Leg → Option (List Leg) → Option (List Leg)
with_leg None o = None
with_leg (Some l) None = None
with_leg (Some l) (Some ls) = Some (l ∷ ls)

-- a leg from each piece
abbrev pub each : List (List Word) → Option (List Leg)
each [] = Some []
each (p ∷ ps) = with_leg (leg_of p) (each ps)

-- no words are no legs
abbrev pub legs_of : List Word → Option (List Leg)
legs_of [] = Some []
legs_of (w ∷ ws) = each (pieces (w ∷ ws))

abbrev pub side_word : Side → Keyword
side_word Buy = BuyWord
side_word Sell = SellWord

-- a leg in words, its ratio always said
abbrev pub leg_words : Leg → List Word → List Word
leg_words l ws = Key (side_word l.side) ∷ Number l.component ∷ Key Ratio ∷ Number l.ratio ∷ ws

abbrev pub more_words : List Leg → List Word
more_words [] = []
more_words (l ∷ ls) = Comma ∷ leg_words l (more_words ls)

-- legs in words, with a comma between two
abbrev pub legs_words : List Leg → List Word
legs_words [] = []
legs_words (l ∷ ls) = leg_words l (more_words ls)
