-- Adding to a list in steps.
use Rattle.std.proofs.Common.{◌≡◌, ℕ, ◌+◌, ◌≤◌, List, [], ◌++◌, length, sym, ap, ◌∙◌, arith}
use Rattle.std.proofs.lemmas.List.{append_assoc, append-nil, length-append}

-- `rest` is still to be added, and comes to the whole
module _ {X : Type 0} (old all now rest : List X) (same : now ++ rest ≡ old ++ all) where
  lengths : length now + length rest ≡ length old + length all
  lengths = omega (arith, ap length same, length-append now rest, length-append old all)

  module _ (new rest' : List X) (is : rest ≡ new ++ rest') where
    pub step_room : (places : ℕ) → length old + length all ≤ places → length now + length new ≤ places
    step_room places h = omega (arith, lengths, ap length is, length-append new rest')

    pub step_same : (now' : List X) → now' ≡ now ++ new → now' ++ rest' ≡ old ++ all
    step_same now' e =
        ap (λ l. l ++ rest') e ∙ (append_assoc now new rest' ∙ (ap (λ l. now ++ l) (sym is) ∙ same))

  pub end_same : rest ≡ [] → now ≡ old ++ all
  end_same e = sym (append-nil now) ∙ (ap (λ l. now ++ l) (sym e) ∙ same)

-- the first part of the whole was added
pub rest_same : {X : Type 0} (old all first rest now : List X) → all ≡ first ++ rest → now ≡ old ++ first → now ++ rest ≡ old ++ all
rest_same old all first rest now is e = ap (λ l. l ++ rest) e ∙ (append_assoc old first rest ∙ ap (λ l. old ++ l) (sym is))
