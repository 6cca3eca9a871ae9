-- What a depth book means: the orders it holds, and of each component and side the best of them.
use Rattle.std.specs.Prelude.{◌≡◌, ℕ, ◌<◌, Bool, true, false, cond, not, ◌&&◌, ◌||◌, List, [], ◌∷◌, ◌++◌, fold, length, is_some, Some, None, Option, ◌==◌, nat_lt}
use Rattle.std.specs.List.{list_any, remove, prefix_len}
use Rattle.std.specs.Option.{option_map, option_to_list}
use Rattle.terms.specs.declared.side.Side.{Side}
use Rattle.terms.specs.declared.side.Side.TheVariants.{Buy, Sell}
use Rattle.terms.specs.declared.top.Top.{Top}
use Rattle.terms.specs.Ranges as range
use Rattle.terms.specs.Sides.{same_side}
use Rattle.terms.specs.Tops.{top_of}
use Rattle.market.specs.declared.book.BookNotice.{BookNotice}
use Rattle.market.specs.declared.book.BookNotice.TheVariants.{Add, Withdraw}
use Rattle.market.specs.declared.book.BookOrder.{BookOrder}
use Rattle.market.specs.declared.book.depth.Change.{Change}
use Rattle.market.specs.declared.book.depth.Change.TheVariants.{Added, Withdrawn}
use Rattle.market.specs.Faults.{fault_at}
use Rattle.market.specs.declared.fault.Fault.{Fault}
use Rattle.market.specs.declared.quoted.Quoted.{Quoted}
use Rattle.market.specs.declared.fault.Cause.{Cause}
use Rattle.market.specs.declared.fault.Cause.TheVariants.{OutOfRange, BookFull, OrderNumber}

-- a higher bid or a lower offer
abbrev pub better : Side → Top → Top → Bool
better Buy a b = nat_lt b.price.cents a.price.cents
better Sell a b = nat_lt a.price.cents b.price.cents

-- the better of two tops of one side; at one price, a customer's if either is
abbrev pub joined : Side → Top → Top → Top
joined s best t = cond (better s best t) best (cond (better s t best) t (record { price = best.price; customer = best.customer || t.customer }))

abbrev pub is_at : ℕ → Side → BookOrder → Bool
is_at c s o = o.component == c && same_side o.side s

abbrev pub joined_to : Side → Option Top → Top → Option Top
joined_to s None t = Some t
joined_to s (Some best) t = Some (joined s best t)

abbrev pub with_order : ℕ → Side → Option Top → BookOrder → Option Top
with_order c s best o = cond (is_at c s o) (joined_to s best o.top) best

-- the best of those orders that are for the component and side, and of what was best before them
abbrev pub best_among : ℕ → Side → Option Top → List BookOrder → Option Top
best_among c s best os = fold (with_order c s) best os

abbrev pub book_top : List BookOrder → ℕ → Side → Option Top
book_top os c s = cond (range.component c) (best_among c s None os) None

-- the place of the order with this number, or behind the last
abbrev pub place_of : ℕ → List BookOrder → ℕ
place_of n os = prefix_len (λ (o : BookOrder). not (o.number == n)) os

abbrev pub holds : ℕ → List BookOrder → Bool
holds n os = nat_lt (place_of n os) (length os)

abbrev why : ℕ → Cause → Option Fault
why c k = Some (fault_at c k)

-- the lowest cause decides; a component out of range is told as 0
abbrev pub add_fault : List BookOrder → ℕ → ℕ → Bool → Option Fault
add_fault os n c priced =
    cond (range.component c)
    (cond (range.number n && priced)
    (cond (nat_lt (length os) 64) (cond (holds n os) (why c OrderNumber) None) (why c BookFull))
    (why c OutOfRange))
    (why 0 OutOfRange)

abbrev pub withdraw_fault : List BookOrder → ℕ → Option Fault
withdraw_fault os n = cond (range.number n) (cond (holds n os) None (why 0 OrderNumber)) (why 0 OutOfRange)

abbrev pub book_fault : List BookOrder → BookNotice → Option Fault
book_fault os (Add n q) = add_fault os n q.component (is_some (top_of q.price q.customer))
book_fault os (Withdraw n) = withdraw_fault os n

-- the order that a notice adds
abbrev pub order_of : ℕ → Quoted → Option BookOrder
order_of n q = option_map (λ (x : Top). record { number = n; component = q.component; side = q.side; top = x }) (top_of q.price q.customer)

abbrev pub book_after : List BookOrder → BookNotice → List BookOrder
book_after os (Add n q) = os ++ option_to_list (order_of n q)
book_after os (Withdraw n) = remove os (place_of n os)

-- the order that a notice adds is there
abbrev pub IsOrder : ℕ → Quoted → BookOrder → Type 0
IsOrder n q o = order_of n q ≡ Some o

-- what an admitted notice does to the orders, and what that leaves
abbrev pub changed : List BookOrder → Change → List BookOrder
changed os (Added o) = os ++ (o ∷ [])
changed os (Withdrawn i) = remove os i

-- there is room for what is added, and what is withdrawn is there
abbrev pub Fits : List BookOrder → Change → Type 0
Fits os (Added o) = length os < 64
Fits os (Withdrawn i) = i < length os

abbrev pub at_price : ℕ → Side → ℕ → BookOrder → Bool
at_price c s p o = is_at c s o && o.top.price.cents == p

abbrev pub beats : ℕ → Side → Top → BookOrder → Bool
beats c s t o = is_at c s o && better s o.top t

abbrev pub customer_at : ℕ → Side → ℕ → BookOrder → Bool
customer_at c s p o = at_price c s p o && o.top.customer

-- some order for the component and side is at the top's price, none is better, and the top is a
-- customer's exactly if some order there at that price is
pub record Best (c : ℕ) (s : Side) (os : List BookOrder) (t : Top) : Type 0 where
  pub there : list_any (at_price c s t.price.cents) os ≡ true
  pub unbeaten : list_any (beats c s t) os ≡ false
  pub mark : t.customer ≡ list_any (customer_at c s t.price.cents) os

-- no top where there is no order, else the best
abbrev pub IsBest : ℕ → Side → List BookOrder → Option Top → Type 0
IsBest c s os None = list_any (is_at c s) os ≡ false
IsBest c s os (Some t) = Best c s os t

-- what a book shows of a component in range
abbrev pub ShowsBest : List BookOrder → ℕ → Side → Option Top → Type 0
ShowsBest os c s t = range.component c ≡ true → IsBest c s os t
