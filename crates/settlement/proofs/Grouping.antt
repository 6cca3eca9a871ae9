-- The sizes of groups.
use Rattle.std.proofs.Common.{◌≡◌, ℕ, ◌+◌, ◌^◌, ◌<◌, ◌≤◌, false, pos, List, [], ◌∷◌, ◌++◌, map, length, get_or, take, sum_by, sym, refl, ap, ◌∙◌, arith}
use Rattle.std.proofs.lemmas.List.{map_more, take_all}
use Rattle.std.proofs.lemmas.List.Sums.{sum_by-cons}
use Rattle.ranked.specs.declared.contra.ContraItem.{ContraItem}
use Rattle.allocation.specs.Parts.{counts, group_size, group_sizes, leaders_in, total}
use Rattle.settlement.specs.Groups.{GroupsFit, of_user, users_in}

pub sum_total : (xs : List ContraItem) → sum_by counts xs ≡ total counts xs
unfolding total
sum_total [] = omega arith
sum_total (x ∷ xs) = omega (arith, sum_by-cons counts x xs, sum_total xs)

abbrev pub size_of : List ContraItem → ℕ → ℕ
size_of others user = total counts (of_user others user)

pub group_room : (others : List ContraItem) → GroupsFit others → (user : ℕ) → sum_by counts (of_user others user) < 2 ^ 32
group_room others fits user =
    let most : size_of others user ≤ 100000 = fits (record { user = user; number = 0; price = pos 0; level = pos 0; customer = false; counted = 0 }) in
    omega (arith, most, sum_total (of_user others user))

-- the sizes of the users' groups, one place on
pub sizes_on : (others : List ContraItem) (users shown : List ℕ) → shown ≡ users → (i : ℕ) (sizes : List ℕ) (d n : ℕ) → sizes ≡ map (size_of others) (take i users) → i < length shown → n ≡ sum_by counts (of_user others (get_or shown i d)) → sizes ++ n ∷ [] ≡ map (size_of others) (take (i + 1) users)
sizes_on others users shown same i sizes d n inv h e =
    ap (λ l. l ++ n ∷ []) (inv ∙ ap (λ l. map (size_of others) (take i l)) (sym same))
    ∙ (ap (λ k. map (size_of others) (take i shown) ++ k ∷ []) (e ∙ sum_total (of_user others (get_or shown i d)))
    ∙ (sym (map_more (size_of others) shown i d h) ∙ ap (λ l. map (size_of others) (take (i + 1) l)) same))

sizes_led : (others xs : List ContraItem) → map (size_of others) (map (λ x. x.user) xs) ≡ map (group_size others) xs
sizes_led others [] = refl
sizes_led others (x ∷ xs) = ap (λ l. group_size others x ∷ l) (sizes_led others xs)

pub sizes_all : (others : List ContraItem) (users shown : List ℕ) → shown ≡ users → users ≡ users_in others → (i : ℕ) (sizes : List ℕ) → sizes ≡ map (size_of others) (take i users) → length shown ≤ i → sizes ≡ group_sizes others
sizes_all others users shown same led i sizes inv h =
    inv
    ∙ (ap (map (size_of others)) (take_all i users (omega (arith, h, ap length same)))
    ∙ (ap (map (size_of others)) led ∙ sizes_led others (leaders_in others)))
