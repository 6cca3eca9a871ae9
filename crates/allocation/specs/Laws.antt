-- What holds of every settlement, over its items and its fills as a buyer sees them.
use Rattle.std.specs.Prelude.{◌≡◌, ℕ, ◌+◌, ◌-◌, ◌*◌, ◌<◌, ◌≤◌, min, Bool, true, not, ◌&&◌, ◌⊎◌, List, [], ◌∷◌, length, ℤ, ◌≤ℤ◌, ◌<ℤ◌, filter, ◌==◌, int_lt, nat_eq}
use Rattle.std.specs.List.{ContainsAt, AllByRecursion}
use Rattle.ranked.specs.declared.contra.ContraItem.{ContraItem}
use Rattle.ranked.specs.declared.fill.Fill.{Fill}
use Rattle.auction.specs.Caps.{cap_fits}
use Rattle.auction.specs.Sizes.{guarantee_of}
use Rattle.contra.specs.Kinds.{same_price}
use Rattle.share.specs.Awards.{Within}
use Rattle.share.specs.Awards as share
use Rattle.allocation.specs.Deals.{Deal}
use Rattle.allocation.specs.Levels.{items_at}
use Rattle.allocation.specs.Parts.{counts, customers_in, leaders_in, others_in, total}

abbrev pub size_of : Fill → ℕ
size_of f = f.size

-- the contracts of the fills that pass
abbrev pub filled : (Fill → Bool) → List Fill → ℕ
filled p fills = total size_of (filter p fills)

-- the counted contracts of the items that pass
abbrev pub counted : (ContraItem → Bool) → List ContraItem → ℕ
counted p items = total counts (filter p items)

-- contracts filled under a number, and counted for it
abbrev pub filled_for : ℕ → List Fill → ℕ
filled_for n fills = filled (λ f. nat_eq f.number n) fills

abbrev pub counted_for : ℕ → List ContraItem → ℕ
counted_for n items = counted (λ x. nat_eq x.number n) items

-- contracts that items were given at a price, and that count there
abbrev pub sold_at : ℤ → List Fill → ℕ
sold_at price fills = filled (λ f. not (f.number == 0) && same_price price f.price) fills

abbrev pub counted_at : ℤ → List ContraItem → ℕ
counted_at price items = total counts (items_at price items)

-- contracts of the Initiating Order at a price
abbrev pub own_at : ℤ → List Fill → ℕ
own_at price fills = filled (λ f. (f.number == 0) && same_price price f.price) fills

-- what remains of the Agency Order at the stop, before and after customers there
abbrev pub left_at_stop : Deal → List Fill → ℕ
left_at_stop d fills = d.size - filled (λ f. int_lt f.price d.stop) fills

abbrev pub left_for_groups : Deal → List ContraItem → List Fill → ℕ
left_for_groups d items fills = left_at_stop d fills - total counts (customers_in (items_at d.stop items))

-- the Initiating Order's guarantee
abbrev pub guaranteed : Deal → List ContraItem → List Fill → ℕ
guaranteed d items fills =
    guarantee_of d.last (left_for_groups d items fills) (length (leaders_in (others_in (items_at d.stop items))))

-- a fill is the Initiating Order's, or that of an item at whose level it trades and which asks no more
pub record Sale (items : List ContraItem) (f : Fill) : Type 0 where
  pub item : ContraItem
  pub there : ContainsAt items item
  pub user : item.user ≡ f.user
  pub number : item.number ≡ f.number
  pub level : item.level ≡ f.price
  pub asks : item.price ≤ℤ f.price

abbrev pub Sold : Deal → List ContraItem → Fill → Type 0
Sold d items f = ((f.number ≡ 0) × (f.user ≡ d.member)) ⊎ Sale items f

-- some fill lies above a price
abbrev pub Beyond : ℤ → List Fill → Type 0
Beyond price fills = (f : Fill) × ContainsAt fills f × (price <ℤ f.price)

pub record Settled (d : Deal) (items : List ContraItem) (fills : List Fill) : Type 0 where
  -- the fills add up to the Agency size, and none is empty
  pub whole : total size_of fills ≡ d.size
  pub some : AllByRecursion (λ f. 0 < f.size) fills
  pub named : AllByRecursion (λ f. f.id ≡ d.id) fills
  -- no fill lies above the stop, below the cap, or below its seller's price
  pub under : AllByRecursion (λ f. f.price ≤ℤ d.stop) fills
  pub above : AllByRecursion (λ f. cap_fits d.floor f.price ≡ true) fills
  pub sold : AllByRecursion (Sold d items) fills
  -- no item gets more than its counted contracts
  pub within : (n : ℕ) → 0 < n → filled_for n fills ≤ counted_for n items
  -- the Initiating Order holds at most its guarantee at the stop, or every item got all
  pub fair : (own_at d.stop fills ≤ guaranteed d items fills) ⊎ ((n : ℕ) → 0 < n → filled_for n fills ≡ counted_for n items)
  -- contracts trade at a price only when every better level is exhausted
  pub better : (price : ℤ) → Beyond price fills → sold_at price fills ≡ counted_at price items
  -- one fill for each item and each level, and one for the stop
  pub few : length fills ≤ 2 * length items + 1

-- each level is at or below all behind it
abbrev pub Rising : List ContraItem → Type 0
Rising [] = Unit {0}
Rising (x ∷ xs) = AllByRecursion (λ y. x.level ≤ℤ y.level) xs × Rising xs

-- what settlement may expect of its items: they have numbers, their levels lie between the cap and
-- the stop and not below what they ask, and the levels rise
pub record Lawful (d : Deal) (items : List ContraItem) : Type 0 where
  pub numbers : AllByRecursion (λ x. 0 < x.number) items
  pub under : AllByRecursion (λ x. x.level ≤ℤ d.stop) items
  pub above : AllByRecursion (λ x. cap_fits d.floor x.level ≡ true) items
  pub asks : AllByRecursion (λ x. x.price ≤ℤ x.level) items
  pub rising : Rising items

-- what a share rule promises, by its awards
pub record Shares (awards : List ℕ → ℕ → List ℕ) : Type 0 where
  pub each : (sizes : List ℕ) (q : ℕ) → length (awards sizes q) ≡ length sizes
  pub within : (sizes : List ℕ) (q : ℕ) → Within (awards sizes q) sizes
  pub spent : (sizes : List ℕ) (q : ℕ) → share.total (awards sizes q) ≡ min q (share.total sizes)
