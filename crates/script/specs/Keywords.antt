-- The keywords: how each is spelled, and which one a spelling is.
use Rattle.std.specs.Prelude.{ℕ, Bool, List, [], ◌∷◌, codes, find, Option}
use Rattle.std.specs.Str.{bytes_eq}
use denote.Enum.Bare.{sameb}
use Rattle.script.specs.contracts.keyword.Keyword.{the_type}
use Rattle.script.specs.declared.keyword.Keyword.{Keyword}
use Rattle.script.specs.declared.keyword.Keyword.TheVariants.{Market, Board, Book, Band, Share, ProRata, FirstCome, List as Listing, Buy, Sell, Ratio, Open, Quote, Bid, Offer, Customer, Clear, Add, Withdraw, Order, Strategy, At, Cancel, Pair, Against, Stop, Single, Last, Match, To, Respond, Auction, Clock, Halt, Component, Close, Settle, Read, Statement}

abbrev pub spelling : Keyword → List ℕ
spelling Market = codes "market"
spelling Board = codes "board"
spelling Book = codes "book"
spelling Band = codes "band"
spelling Share = codes "share"
spelling ProRata = codes "pro-rata"
spelling FirstCome = codes "first-come"
spelling Listing = codes "list"
spelling Buy = codes "buy"
spelling Sell = codes "sell"
spelling Ratio = codes "ratio"
spelling Open = codes "open"
spelling Quote = codes "quote"
spelling Bid = codes "bid"
spelling Offer = codes "offer"
spelling Customer = codes "customer"
spelling Clear = codes "clear"
spelling Add = codes "add"
spelling Withdraw = codes "withdraw"
spelling Order = codes "order"
spelling Strategy = codes "strategy"
spelling At = codes "at"
spelling Cancel = codes "cancel"
spelling Pair = codes "pair"
spelling Against = codes "against"
spelling Stop = codes "stop"
spelling Single = codes "single"
spelling Last = codes "last"
spelling Match = codes "match"
spelling To = codes "to"
spelling Respond = codes "respond"
spelling Auction = codes "auction"
spelling Clock = codes "clock"
spelling Halt = codes "halt"
spelling Component = codes "component"
spelling Close = codes "close"
spelling Settle = codes "settle"
spelling Read = codes "read"
spelling Statement = codes "statement"

abbrev pub keywords : List Keyword
keywords =
    Market ∷ Board ∷ Book ∷ Band ∷ Share ∷ ProRata ∷ FirstCome ∷ Listing ∷ Buy ∷ Sell ∷ Ratio ∷
    Open ∷ Quote ∷ Bid ∷ Offer ∷ Customer ∷ Clear ∷ Add ∷ Withdraw ∷ Order ∷ Strategy ∷ At ∷
    Cancel ∷ Pair ∷ Against ∷ Stop ∷ Single ∷ Last ∷ Match ∷ To ∷ Respond ∷ Auction ∷ Clock ∷ Halt ∷
    Component ∷ Close ∷ Settle ∷ Read ∷ Statement ∷ []

-- the first of some keywords that is spelled so
abbrev pub keyword_in : List Keyword → List ℕ → Option Keyword
keyword_in ks bs = find (λ k. bytes_eq (spelling k) bs) ks

unfoldable pub keyword_of : List ℕ → Option Keyword
keyword_of bs = keyword_in keywords bs

-- whether two keywords are the same
abbrev pub is : Keyword → Keyword → Bool
is = sameb the_type
