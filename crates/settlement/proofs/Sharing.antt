-- The awards that a share rule writes for the groups.
use Rattle.std.proofs.Common.{◌≡◌, ℕ, ◌+◌, ◌≤◌, min, true, cond, leb, List, [], ◌∷◌, ◌++◌, map, length, take, drop, is_ok, Ok, Err, Result, sym, refl, ap, ◌∙◌, subst, arith}
use Rattle.std.proofs.lemmas.List.{take_at}
use Rattle.std.proofs.lemmas.Bool.{and_from, cond-true, le-leb}
use Rattle.terms.specs.Refusals.{answered, said}
use Rattle.terms.specs.declared.refusal.Refusal.{Refusal}
use Rattle.ranked.specs.declared.contra.ContraItem.{ContraItem}
use Rattle.share.specs.Awards as share
use Rattle.share.specs.Requests.{share_fits, share_said, sizes_fit}
use Rattle.ranked.specs.declared.fill.Fill.{Fill}
use Rattle.allocation.proofs.Giving.{shared_given_le}
use Rattle.allocation.specs.Deals.{Deal}
use Rattle.allocation.specs.Fillings.{part_fills}
use Rattle.allocation.specs.Laws.{Shares}
use Rattle.allocation.specs.Parts.{Part, dealt, group_size, group_sizes, leaders_in, shared}
use Rattle.settlement.specs.Groups.{GroupsFit, dealt_to, users_in}
use Rattle.settlement.proofs.Dealing.{dealt_users}
use Rattle.settlement.specs.Writes.{Given, HasRoom}
use Rattle.settlement.specs.declared.filling.Filling.{Filling}

pub answered_ok : {A F : Type 0} (r : Result A (Refusal F)) (a : A) → said r ≡ answered a → is_ok r ≡ true
answered_ok (Ok x) a e = refl
answered_ok (Err f) a e = let z : ◌≡◌ {A = ℕ} 0 1 = cc in absurd (let b : ⊥ = omega arith in b)

-- the laws of a rule, for its awards
pub shares_by : {R : Type 0} (awards : R → List ℕ → ℕ → List ℕ) → ((rule : R) (sizes : List ℕ) (q : ℕ) → length (awards rule sizes q) ≡ length sizes) → ((rule : R) (sizes : List ℕ) (q : ℕ) → share.Within (awards rule sizes q) sizes) → ((rule : R) (sizes : List ℕ) (q : ℕ) → share.total (awards rule sizes q) ≡ min q (share.total sizes)) → (rule : R) → Shares (awards rule)
shares_by awards each within spent rule = record { each = each rule; within = within rule; spent = spent rule }

sizes_do_fit : (others : List ContraItem) → GroupsFit others → (xs : List ContraItem) → sizes_fit (map (group_size others) xs) ≡ true
sizes_do_fit others fits [] = refl
sizes_do_fit others fits (x ∷ xs) = and_from _ _ (le-leb (group_size others x) 100000 (fits x)) (sizes_do_fit others fits xs)

-- a share rule was asked for awards to sizes, which are those of the groups
module _ (awards : List ℕ → ℕ → List ℕ) (shares : Shares awards) (others : List ContraItem) (fits : GroupsFit others) (q : ℕ) (most : q ≤ 100000) (sizes asked : List ℕ) (sized : sizes ≡ group_sizes others) (same : asked ≡ sizes) (few : length asked ≤ 128) (old given : List ℕ) (long : length old ≡ 128) {F : Type 0} (r : Result (Unit {0}) (Refusal F)) (answer : said r ≡ share_said asked q (length old)) (after : given ≡ cond (is_ok r) (awards asked q ++ drop (length asked) old) old) (n : ℕ) (count : n ≡ length sizes) where
  is : asked ≡ group_sizes others
  is = same ∙ sized

  groups : length (group_sizes others) ≤ 128
  groups = omega (arith, ap length is)

  fit : share_fits (group_sizes others) q ≡ true
  fit = and_from _ _ (le-leb (length (group_sizes others)) 128 groups) (and_from _ _ (le-leb q 100000 most) (sizes_do_fit others fits (leaders_in others)))

  taken : is_ok r ≡ true
  taken =
      answered_ok r tt
      (answer
      ∙ (ap (λ l. share_said l q (length old)) is
      ∙ (cond-true (share_fits (group_sizes others) q) _ _ fit ∙ cond-true (leb (length (group_sizes others)) (length old)) _ _ (le-leb (length (group_sizes others)) (length old) (omega (arith, groups))))))

  awarded : take n given ≡ awards (group_sizes others) q
  awarded =
      ap (take n) (after ∙ cond-true (is_ok r) _ _ taken)
      ∙ (ap (λ l. take n (awards l q ++ drop (length l) old)) is
      ∙ take_at (awards (group_sizes others) q) _ n (shares.each (group_sizes others) q ∙ sym (count ∙ ap length sized)))

  pub award_most : share.total (take n given) ≤ q
  award_most = omega (arith, ap share.total awarded, shares.spent (group_sizes others) q)

  module _ (users : List ℕ) (led : users ≡ users_in others) where
    all_dealt : dealt_to others users (take n given) ≡ shared awards others q
    all_dealt =
        ap (λ l. dealt_to others l (take n given)) led
        ∙ (dealt_users others (leaders_in others) (take n given) ∙ ap (dealt others (leaders_in others)) awarded)

    pub share_room : (d : Deal) (before : List Fill) → HasRoom (part_fills d (shared awards others q)) before → HasRoom (part_fills d (dealt_to others users (take n given))) before
    share_room d before h = omega (arith, ap (λ l. length (part_fills d l)) all_dealt)

    pub share_given : (d : Deal) (before now : Filling) → Given d (dealt_to others users (take n given)) before now → Given d (shared awards others q) before now × (before.left ≤ now.left + q)
    share_given d before now f =
        let P : List Part → Type 0 = λ ps. Given d ps before now in
        let g = subst P all_dealt f in
        (g, let e = g.left in omega (arith, shared_given_le awards shares others q))
