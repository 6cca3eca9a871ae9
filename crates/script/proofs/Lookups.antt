-- A spelling is looked up among the keywords, and each keyword is found under its own.
use Rattle.std.proofs.Common.{◌≡◌, ℕ, Bool, true, false, cond, List, [], ◌∷◌, Some, Option, sym, refl, ap, ◌∙◌, arith}
use Rattle.std.proofs.lemmas.Bool.{and_parts}
use Rattle.std.specs.List.{find, list_all}
use Rattle.std.specs.Str.{bytes_eq}
use Rattle.script.specs.declared.keyword.Keyword.{Keyword}
use Rattle.script.specs.declared.keyword.Keyword.TheVariants.{Market, Board, Book, Band, Share, ProRata, FirstCome, List as Listing, Buy, Sell, Ratio, Open, Quote, Bid, Offer, Customer, Clear, Add, Withdraw, Order, Strategy, At, Cancel, Pair, Against, Stop, Single, Last, Match, To, Respond, Auction, Clock, Halt, Component, Close, Settle, Read, Statement}
use Rattle.script.specs.Keywords.{keyword_in, keywords, keyword_of, spelling}

pub found : (k : Keyword) → keyword_of (spelling k) ≡ Some k
unfolding keyword_of
found Market = refl
found Board = refl
found Book = refl
found Band = refl
found Share = refl
found ProRata = refl
found FirstCome = refl
found Listing = refl
found Buy = refl
found Sell = refl
found Ratio = refl
found Open = refl
found Quote = refl
found Bid = refl
found Offer = refl
found Customer = refl
found Clear = refl
found Add = refl
found Withdraw = refl
found Order = refl
found Strategy = refl
found At = refl
found Cancel = refl
found Pair = refl
found Against = refl
found Stop = refl
found Single = refl
found Last = refl
found Match = refl
found To = refl
found Respond = refl
found Auction = refl
found Clock = refl
found Halt = refl
found Component = refl
found Close = refl
found Settle = refl
found Read = refl
found Statement = refl

found_by : {X : Type 0} (p test : X → Bool) (y : X) (ys : List X) (x : X) (t : Bool) → p y ≡ true → (find test ys ≡ Some x → p x ≡ true) → cond t (Some y) (find test ys) ≡ Some x → p x ≡ true
found_by p test y ys x true e k f = let g : y ≡ x = cc in ap p (sym g) ∙ e
found_by p test y ys x false e k f = k f

found_passes : {X : Type 0} (p test : X → Bool) (xs : List X) (x : X) → list_all p xs ≡ true → find test xs ≡ Some x → p x ≡ true
found_passes p test [] x e f = let z : ◌≡◌ {A = ℕ} 0 1 = cc in absurd (omega arith)
found_passes p test (y ∷ ys) x e f =
    let (first, rest) = and_parts (p y) (list_all p ys) e in
    found_by p test y ys x (test y) first (found_passes p test ys x rest) f

-- what holds of each of the keywords in turn holds of any
pub every : (p : Keyword → Bool) → list_all p keywords ≡ true → (k : Keyword) → p k ≡ true
unfolding keyword_of
every p e k = found_passes p (λ j. bytes_eq (spelling j) (spelling k)) keywords k e (found k)

pub looked_up : (r : Option Keyword) (ks : List Keyword) (bs : List ℕ) → ks ≡ keywords → r ≡ keyword_in ks bs → r ≡ keyword_of bs
unfolding keyword_of
looked_up r ks bs e f = f ∙ ap (λ xs. keyword_in xs bs) e
