-- How words follow one another in a statement.
use Rattle.std.specs.Prelude.{ℕ, cond, List, [], ◌∷◌, Some, None, Option}
use Rattle.script.specs.declared.keyword.Keyword.{Keyword}
use Rattle.script.specs.Keywords.{is}
use Rattle.script.specs.declared.word.Word.{Word}
use Rattle.script.specs.declared.word.Word.TheVariants.{Key, Comma, Number, Negative}

-- what a first value leads to, if there is one
abbrev pub and_then : {X Y : Type 0} → Option X → (X → Option Y) → Option Y
and_then None f = None
and_then (Some x) f = f x

-- a number, and what follows it
abbrev pub number_then : {X : Type 0} → (ℕ → List Word → Option X) → List Word → Option X
number_then f [] = None
number_then f (Key k ∷ ws) = None
number_then f (Comma ∷ ws) = None
number_then f (Number n ∷ ws) = f n ws
number_then f (Negative z ∷ ws) = None

-- a keyword, and what follows it
abbrev pub key_then : {X : Type 0} → (Keyword → List Word → Option X) → List Word → Option X
key_then f [] = None
key_then f (Key k ∷ ws) = f k ws
key_then f (Comma ∷ ws) = None
key_then f (Number n ∷ ws) = None
key_then f (Negative z ∷ ws) = None

-- the end of the statement
abbrev pub ended : {X : Type 0} → X → List Word → Option X
ended x [] = Some x
ended x (w ∷ ws) = None

-- a keyword alone
abbrev pub only_keyword : List Word → Option Keyword
only_keyword ws = key_then ended ws

-- what a keyword says, where each of two says one thing
abbrev pub one_of : {X : Type 0} → Keyword → Keyword × X → Keyword × X → Option X
one_of k a b = cond (is k a.0) (Some a.1) (cond (is k b.0) (Some b.1) None)
