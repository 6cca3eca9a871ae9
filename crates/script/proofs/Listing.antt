-- The legs of a list: the steps of the loop that reads them, and what is read of legs in words.
use Rattle.std.proofs.Common.{◌≡◌, ℕ, zero, suc, ◌<◌, Bool, true, false, eqb, List, [], ◌∷◌, ◌++◌, length, get_or, map, Bor, Some, None, Option, sym, refl, ap, ◌∙◌, arith}
use Rattle.std.proofs.lemmas.List.{map-append}
use Rattle.std.proofs.lemmas.Bool.Decides.{nat_tests}
use Rattle.terms.specs.declared.leg.Leg.{Leg}
use Rattle.terms.specs.declared.side.Side.{Side}
use Rattle.terms.specs.declared.side.Side.TheVariants.{Buy, Sell}
use Rattle.script.specs.declared.keyword.Keyword.TheVariants.{Ratio}
use Rattle.script.specs.declared.word.Word.{Word}
use Rattle.script.specs.declared.word.Word.TheVariants.{Key, Number}
use Rattle.script.specs.Legs.{each, leg_of, legs_of, legs_words, leg_with, leg_words, more_words, pieces, side_word, with_leg}

pub some_words : (ws : List Word) → false ≡ eqb (length ws) 0 → legs_of ws ≡ each (pieces ws)
some_words [] e = let z : ◌≡◌ {A = Bool} true false = grind (arith, nat_tests) in absurd (grind arith)
some_words (w ∷ ws) e = refl

-- a leg after others, if there are any to come after
abbrev then_leg : Leg → Option (List Leg) → Option (List Leg)
then_leg l None = None
then_leg l (Some ls) = Some (ls ++ l ∷ [])

past : (l : Leg) (o : Option Leg) (r : Option (List Leg)) → with_leg o (then_leg l r) ≡ then_leg l (with_leg o r)
past l None r = refl
past l (Some m) None = refl
past l (Some m) (Some ms) = refl

each_then : (ps : List (List Word)) (p : List Word) (l : Leg) → leg_of p ≡ Some l → each (ps ++ p ∷ []) ≡ then_leg l (each ps)
each_then [] p l e = ap (λ o. with_leg o (Some [])) e
each_then (q ∷ ps) p l e = ap (with_leg (leg_of q)) (each_then ps p l e) ∙ past l (leg_of q) (each ps)

with_none : (o : Option Leg) → with_leg o None ≡ None
with_none None = refl
with_none (Some l) = refl

each_none : (all : List (List Word)) (i : ℕ) (d : List Word) → i < length all → leg_of (get_or all i d) ≡ None → each all ≡ None
each_none [] i d h e = absurd (omega arith)
each_none (p ∷ ps) zero d h e = ap (λ o. with_leg o (each ps)) e
each_none (p ∷ ps) (suc i) d h e = ap (with_leg (leg_of p)) (each_none ps i d (omega arith) e) ∙ with_none (leg_of p)

-- a piece that is no leg
pub no_leg : (all : List (List Word)) (i : ℕ) (p : List Word) (o : Option Leg) → o ≡ leg_of p → o ≡ None → (i < length all) × (p ≡ get_or all i p) → None ≡ each all
no_leg all i p o e f (h, g) = sym (each_none all i p h (ap leg_of (sym g) ∙ (sym e ∙ f)))

-- a piece that is a leg
pub next_leg : (xs : List (Bor (List Word))) (x : Bor (List Word)) (o : Option Leg) (l : Leg) (ls ms : List Leg) → o ≡ leg_of x.now → o ≡ Some l → each (map (λ p. p.now) xs) ≡ Some ls → ms ≡ ls ++ l ∷ [] → each (map (λ p. p.now) (xs ++ x ∷ [])) ≡ Some ms
next_leg xs x o l ls ms e f g h =
    ap each (map-append (λ p. p.now) xs (x ∷ []))
    ∙ (each_then (map (λ p. p.now) xs) x.now l (sym e ∙ f)
    ∙ (ap (then_leg l) g ∙ ap Some (sym h)))

-- a side is read back from its word
side_back : (s : Side) (c r : ℕ) → leg_of (Key (side_word s) ∷ Number c ∷ Key Ratio ∷ Number r ∷ []) ≡ Some (leg_with c s r)
side_back Buy c r = refl
side_back Sell c r = refl

each_back : (l : Leg) (ls : List Leg) → each (pieces (leg_words l (more_words ls))) ≡ Some (l ∷ ls)
each_back l [] = ap (λ o. with_leg o (Some [])) (side_back l.side l.component l.ratio)
each_back l (m ∷ ls) =
    ap (λ o. with_leg o (each (pieces (leg_words m (more_words ls))))) (side_back l.side l.component l.ratio)
    ∙ ap (with_leg (Some l)) (each_back m ls)

-- legs are read back from their words
pub legs_back : (ls : List Leg) → legs_of (legs_words ls) ≡ Some ls
legs_back [] = refl
legs_back (l ∷ ls) = each_back l ls
