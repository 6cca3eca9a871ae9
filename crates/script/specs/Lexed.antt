-- The words of a line.
use Rattle.std.specs.Prelude.{◌≡◌, ℕ, ◌+◌, ◌-◌, ◌<◌, ◌≤◌, Bool, false, cond, not, ◌&&◌, ◌||◌, List, [], ◌∷◌, ◌++◌, length, take, drop, Some, None, Ok, Err, vec_items, Option, Result, Vec, ◌==◌}
use Rattle.std.specs.Borrow.{Bor}
use Rattle.std.specs.declared.alloc.Global.{Global}
use Rattle.std.specs.List.{prefix_len}
use Rattle.script.specs.declared.lex.Unread.{Unread}
use Rattle.script.specs.declared.lex.Unread.TheVariants.{Memory, Unknown}
use Rattle.script.specs.declared.word.Word.{Word}
use Rattle.script.specs.Words.{Fit, word_of, written}

-- no `#`
abbrev pub before_comment : ℕ → Bool
before_comment b = not (b == 35)

-- a space or a tab
abbrev pub gap : ℕ → Bool
gap b = b == 32 || b == 9

-- no gap and no comma
abbrev pub in_word : ℕ → Bool
in_word b = not (b == 32) && (not (b == 9) && not (b == 44))

-- a line without its comment
abbrev pub uncommented : List ℕ → List ℕ
uncommented line = take (prefix_len before_comment line) line

-- a part of a text, from a start to before an end
pub record Span : Type 0 where
  pub start : ℕ
  pub end : ℕ

abbrev pub spanned : ℕ → ℕ → Span
spanned i j = record { start = i; end = j }

abbrev pub goes_on : List ℕ → Bool
goes_on [] = false
goes_on (b ∷ bs) = in_word b

-- the first part begins at i
abbrev pub begun_at : ℕ → List Span → List Span
begun_at i [] = []
begun_at i (s ∷ ss) = spanned i s.end ∷ ss

-- the parts of a text that are spellings, counted from i: each comma, and each longest run of other bytes that are no gaps
abbrev pub spans : ℕ → List ℕ → List Span
spans i [] = []
spans i (b ∷ bs) =
    cond (gap b) (spans (i + 1) bs)
    (cond (in_word b && goes_on bs) (begun_at i (spans (i + 1) bs)) (spanned i (i + 1) ∷ spans (i + 1) bs))

-- how long the spelling is that a text begins with
abbrev pub spelling_len : List ℕ → ℕ
spelling_len [] = 0
spelling_len (b ∷ bs) = cond (b == 44) 1 (prefix_len in_word (b ∷ bs))

abbrev pub part : Span → List ℕ → List ℕ
part s text = take (s.end - s.start) (drop s.start text)

abbrev pub read_by : Option Word → Span → Result (List Word) Span → Result (List Word) Span
read_by None s r = Err s
read_by (Some w) s (Ok ws) = Ok (w ∷ ws)
read_by (Some w) s (Err t) = Err t

-- the words that stand at these parts, or the first part that is no word
abbrev pub read_at : List ℕ → List Span → Result (List Word) Span
read_at text [] = Ok []
read_at text (s ∷ ss) = read_by (word_of (part s text)) s (read_at text ss)

abbrev pub lexed : List ℕ → Result (List Word) Span
lexed line = read_at (uncommented line) (spans 0 (uncommented line))

-- a text begins with gaps, then with a spelling, and the rest is left, wherever it stands
pub record Begins (text spelling rest : List ℕ) : Type 0 where
  pub cut : drop (prefix_len gap text) text ≡ spelling ++ rest
  pub some : 0 < length spelling
  pub first : (i : ℕ) → spans i text ≡ spanned (i + prefix_len gap text) (i + prefix_len gap text + length spelling) ∷ spans (i + prefix_len gap text + length spelling) rest

-- the spelling that a text begins with, if any, and what is left after it
abbrev pub Next : List ℕ → Option (Bor (List ℕ) × Bor (List ℕ)) → Type 0
Next text None = (i : ℕ) → spans i text ≡ []
Next text (Some p) = Begins text p.0.now p.1.now

-- from a start to before an end stands the first part of the line that is no word
pub record FirstUnknown (line : List ℕ) (start end : ℕ) : Type 0 where
  pub stops : lexed line ≡ Err (spanned start end)
  pub some : start < end
  pub within : end ≤ length line

-- the words of the line, unless memory fails
abbrev pub Reads : List ℕ → Result (Vec Word Global) Unread → Type 0
Reads line (Ok v) = lexed line ≡ Ok (vec_items v)
Reads line (Err Memory) = Unit {0}
Reads line (Err (Unknown i j)) = FirstUnknown line i j

-- words written one after another, with a space after each
abbrev pub written_all : List Word → List ℕ
written_all [] = []
written_all (w ∷ ws) = written w ++ (32 ∷ written_all ws)

abbrev pub AllFit : List Word → Type 0
AllFit [] = Unit {0}
AllFit (w ∷ ws) = Fit w × AllFit ws

-- these words, unless memory fails
abbrev pub Gives : List Word → Result (Vec Word Global) Unread → Type 0
Gives ws (Ok v) = vec_items v ≡ ws
Gives ws (Err Memory) = Unit {0}
Gives ws (Err (Unknown i j)) = ⊥
