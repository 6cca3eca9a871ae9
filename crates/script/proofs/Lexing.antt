-- Steps of the loop that reads the words of a text.
use Rattle.std.proofs.Common.{◌≡◌, ℕ, ◌+◌, ◌-◌, List, [], ◌∷◌, ◌++◌, length, take, drop, Some, None, Ok, Err, Option, Result, sym, refl, ap, ◌∙◌, append_assoc, arith}
use Rattle.std.proofs.lemmas.List.{drop-drop, drop_at, length-append, length-drop, length-take-le, take_at}
use Rattle.std.proofs.lemmas.List.Sums.{prefix_len-le-length}
use Rattle.std.specs.List.{prefix_len}
use Rattle.script.specs.declared.word.Word.{Word}
use Rattle.script.specs.Lexed.{Begins, FirstUnknown, Span, before_comment, gap, lexed, part, read_at, read_by, spanned, spans, uncommented}
use Rattle.script.specs.Words.{word_of}

-- words already read, before what is left
abbrev pub prefixed : List Word → Result (List Word) Span → Result (List Word) Span
prefixed ws (Ok vs) = Ok (ws ++ vs)
prefixed ws (Err s) = Err s

one_read : (ws : List Word) (w : Word) (s : Span) (r : Result (List Word) Span) → prefixed (ws ++ w ∷ []) r ≡ prefixed ws (read_by (Some w) s r)
one_read ws w s (Ok vs) = ap Ok (append_assoc ws (w ∷ []) vs)
one_read ws w s (Err t) = refl

-- what is left of a text after the words that were read of it
pub record Left (text : List ℕ) (ws : List Word) (rest : List ℕ) : Type 0 where
  pub at : ℕ
  pub is : rest ≡ drop at text
  pub reads : prefixed ws (read_at text (spans at rest)) ≡ read_at text (spans 0 text)

module _ (text : List ℕ) (ws : List Word) (rest : List ℕ) (l : Left text ws rest) where
  module _ (spelling after : List ℕ) (o : Option Word) (b : Begins rest spelling after) (e : o ≡ word_of spelling) where
    abbrev here : Span
    here = spanned (l.at + prefix_len gap rest) (l.at + prefix_len gap rest + length spelling)

    abbrev more : List Span
    more = spans (l.at + prefix_len gap rest + length spelling) after

    tail : drop (l.at + prefix_len gap rest) text ≡ spelling ++ after
    tail = sym (drop-drop (prefix_len gap rest) l.at text) ∙ (ap (drop (prefix_len gap rest)) (sym l.is) ∙ b.cut)

    cut_out : part here text ≡ spelling
    cut_out =
        ap (λ m. take m (drop (l.at + prefix_len gap rest) text)) (omega arith)
        ∙ (ap (take (length spelling)) tail ∙ take_at spelling after (length spelling) refl)

    step : prefixed ws (read_by o here (read_at text more)) ≡ read_at text (spans 0 text)
    step =
        ap (λ p. prefixed ws (read_by p here (read_at text more))) (e ∙ ap word_of (sym cut_out))
        ∙ (sym (ap (λ xs. prefixed ws (read_at text xs)) (b.first l.at)) ∙ l.reads)

    pub one_word : (w : Word) (vs : List Word) → o ≡ Some w → vs ≡ ws ++ w ∷ [] → Left text vs after
    one_word w vs f g = record {
      at = l.at + prefix_len gap rest + length spelling;
      is = sym (drop_at spelling after (length spelling) refl) ∙ (ap (drop (length spelling)) (sym tail) ∙ drop-drop (length spelling) (l.at + prefix_len gap rest) text);
      reads = ap (λ us. prefixed us (read_at text more)) g ∙ (one_read ws w here (read_at text more) ∙ (ap (λ p. prefixed ws (read_by p here (read_at text more))) (sym f) ∙ step));
    }

    -- what is left of the text has the spelling in it
    pub left_length : length text ≡ l.at + prefix_len gap rest + (length spelling + length after)
    left_length = omega (arith, sym (length-drop (l.at + prefix_len gap rest) text) ∙ (ap length tail ∙ length-append spelling after), b.some)

    pub no_word : (line : List ℕ) (i j : ℕ) → text ≡ uncommented line → o ≡ None → j ≡ length text - length after → i ≡ j - length spelling → FirstUnknown line i j
    no_word line i j t f g h =
        let to : j ≡ l.at + prefix_len gap rest + length spelling = omega (arith, left_length) in
        let from : i ≡ l.at + prefix_len gap rest = omega (arith, left_length) in
        let stops : lexed line ≡ Err here = ap (λ xs. read_at xs (spans 0 xs)) (sym t) ∙ sym (ap (λ p. prefixed ws (read_by p here (read_at text more))) (sym f) ∙ step) in
        record {
          stops = stops ∙ (ap (λ k. Err (spanned k (l.at + prefix_len gap rest + length spelling))) (sym from) ∙ ap (λ k. Err (spanned i k)) (sym to));
          some = omega (arith, b.some);
          within = omega (arith, left_length, to, ap length t, length-take-le (prefix_len before_comment line) line (prefix_len-le-length before_comment line), prefix_len-le-length before_comment line);
        }
