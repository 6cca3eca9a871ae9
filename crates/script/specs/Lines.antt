-- The statement that the words of a line make.
use Rattle.std.specs.Prelude.{ℕ, Bool, true, false, cond, List, [], ◌∷◌, Some, None, vec_items, Option}
use Rattle.market.specs.declared.board.BoardNotice.{BoardNotice}
use Rattle.market.specs.declared.board.BoardNotice.TheVariants.{Set, Clear}
use Rattle.market.specs.declared.book.BookNotice.{BookNotice}
use Rattle.market.specs.declared.book.BookNotice.TheVariants.{Add, Withdraw}
use Rattle.market.specs.declared.quoted.Quoted.{Quoted}
use Rattle.std.specs.Option.{option_map}
use Rattle.terms.specs.declared.leg.Leg.{Leg}
use Rattle.terms.specs.declared.side.Side.{Side}
use Rattle.terms.specs.declared.side.Side.TheVariants.{Buy, Sell}
use Rattle.script.specs.declared.keyword.Keyword.{Keyword}
use Rattle.script.specs.declared.keyword.Keyword.TheVariants as key
use Rattle.script.specs.declared.line.MarketKind.{MarketKind}
use Rattle.script.specs.declared.line.MarketKind.TheVariants as kind
use Rattle.script.specs.declared.line.ShareKind.{ShareKind}
use Rattle.script.specs.declared.line.ShareKind.TheVariants as rule
use Rattle.script.specs.declared.line.Statement.{Statement}
use Rattle.script.specs.declared.line.Statement.TheVariants.{Market, Band, Share, List as Listed, Open, Board, Book, Read}
use Rattle.script.specs.declared.word.Word.{Word}
use Rattle.script.specs.declared.word.Word.TheVariants.{Key, Number}
use Rattle.script.specs.Forms.{and_then, ended, key_then, number_then, one_of, only_keyword}
use Rattle.script.specs.Keywords.{is}
use Rattle.script.specs.Legs.{legs_of, legs_words}

-- a statement by what it says
pub data Spoken : Type 0 where
  market : MarketKind → Spoken
  band : ℕ → Spoken
  share : ShareKind → Spoken
  listing : List Leg → Spoken
  opening : ℕ → Spoken
  board : BoardNotice → Spoken
  book : BookNotice → Spoken
  reading : ℕ → Spoken

abbrev pub spoken : Statement → Spoken
spoken (Market k) = market k
spoken (Band n) = band n
spoken (Share k) = share k
spoken (Listed v) = listing (vec_items v)
spoken (Open n) = opening n
spoken (Board n) = board n
spoken (Book n) = book n
spoken (Read n) = reading n

abbrev pub market_of : List Word → Option MarketKind
market_of ws = and_then (only_keyword ws) (λ k. one_of k (key.Board, kind.Board) (key.Book, kind.Book))

abbrev pub share_of : List Word → Option ShareKind
share_of ws = and_then (only_keyword ws) (λ k. one_of k (key.ProRata, rule.ProRata) (key.FirstCome, rule.FirstCome))

abbrev pub only_number : List Word → Option ℕ
only_number ws = number_then ended ws

abbrev pub quote_side : Keyword → Option Side
quote_side k = one_of k (key.Bid, Buy) (key.Offer, Sell)

abbrev pub mark_of : List Word → Option Bool
mark_of [] = Some false
mark_of (w ∷ ws) = key_then (λ k us. cond (is k key.Customer) (ended true us) None) (w ∷ ws)

abbrev pub quoted_with : ℕ → Side → ℕ → Bool → Quoted
quoted_with c s p m = record { component = c; side = s; price = p; customer = m }

-- a component, a side, a price and, if said, a customer's mark
abbrev pub quoted_of : List Word → Option Quoted
quoted_of ws = number_then (λ c. key_then (λ k. number_then (λ p us. and_then (quote_side k) (λ s. and_then (mark_of us) (λ m. Some (quoted_with c s p m)))))) ws

abbrev pub quote_of : List Word → Option BoardNotice
quote_of ws = option_map Set (quoted_of ws)

abbrev pub clear_of : List Word → Option BoardNotice
clear_of ws = number_then (λ c. key_then (λ k us. and_then (quote_side k) (λ s. ended (Clear c s) us))) ws

abbrev pub order_of : ℕ → List Word → Option BookNotice
order_of n ws = option_map (λ q. Add n q) (quoted_of ws)

abbrev pub add_of : List Word → Option BookNotice
add_of ws = number_then order_of ws

abbrev pub withdraw_of : List Word → Option BookNotice
withdraw_of ws = option_map (λ n. Withdraw n) (only_number ws)

-- a statement with no list in it
abbrev pub plain_of : Keyword → List Word → Option Spoken
plain_of k ws =
    cond (is k key.Market) (option_map market (market_of ws))
    (cond (is k key.Band) (option_map band (only_number ws))
    (cond (is k key.Share) (option_map share (share_of ws))
    (cond (is k key.Open) (option_map opening (only_number ws))
    (cond (is k key.Quote) (option_map board (quote_of ws))
    (cond (is k key.Clear) (option_map board (clear_of ws))
    (cond (is k key.Add) (option_map book (add_of ws))
    (cond (is k key.Withdraw) (option_map book (withdraw_of ws))
    (cond (is k key.Read) (option_map reading (only_number ws)) None))))))))

abbrev pub statement_of : List Word → Option Spoken
statement_of ws = key_then (λ k us. cond (is k key.List) (option_map listing (legs_of us)) (plain_of k us)) ws

abbrev pub market_word : MarketKind → Keyword
market_word kind.Board = key.Board
market_word kind.Book = key.Book

abbrev pub share_word : ShareKind → Keyword
share_word rule.ProRata = key.ProRata
share_word rule.FirstCome = key.FirstCome

abbrev pub quote_word : Side → Keyword
quote_word Buy = key.Bid
quote_word Sell = key.Offer

abbrev pub mark_words : Bool → List Word
mark_words true = Key key.Customer ∷ []
mark_words false = []

abbrev pub quote_words : Quoted → List Word
quote_words q = Number q.component ∷ Key (quote_word q.side) ∷ Number q.price ∷ mark_words q.customer

abbrev pub board_words : BoardNotice → List Word
board_words (Set q) = Key key.Quote ∷ quote_words q
board_words (Clear c s) = Key key.Clear ∷ Number c ∷ Key (quote_word s) ∷ []

abbrev pub book_words : BookNotice → List Word
book_words (Add n q) = Key key.Add ∷ Number n ∷ quote_words q
book_words (Withdraw n) = Key key.Withdraw ∷ Number n ∷ []

-- a statement in words
abbrev pub words_of : Spoken → List Word
words_of (market k) = Key key.Market ∷ Key (market_word k) ∷ []
words_of (band n) = Key key.Band ∷ Number n ∷ []
words_of (share k) = Key key.Share ∷ Key (share_word k) ∷ []
words_of (listing ls) = Key key.List ∷ legs_words ls
words_of (opening n) = Key key.Open ∷ Number n ∷ []
words_of (board n) = board_words n
words_of (book n) = book_words n
words_of (reading n) = Key key.Read ∷ Number n ∷ []

abbrev pub first_of : List Word → Option Word
first_of [] = None
first_of (w ∷ ws) = Some w
