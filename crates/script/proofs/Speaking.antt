-- Every statement is read back from its words.
use Rattle.std.proofs.Common.{◌≡◌, ℕ, Bool, true, false, List, IfOk, Some, Ok, Err, Option, Result, refl, ap, ◌∙◌}
use Rattle.market.specs.declared.board.BoardNotice.{BoardNotice}
use Rattle.market.specs.declared.board.BoardNotice.TheVariants.{Set, Clear}
use Rattle.market.specs.declared.book.BookNotice.{BookNotice}
use Rattle.market.specs.declared.book.BookNotice.TheVariants.{Add, Withdraw}
use Rattle.std.specs.Option.{option_map}
use Rattle.market.specs.declared.quoted.Quoted.{Quoted}
use Rattle.terms.specs.declared.side.Side.{Side}
use Rattle.terms.specs.declared.side.Side.TheVariants.{Buy, Sell}
use Rattle.script.specs.declared.line.MarketKind.TheVariants as kind
use Rattle.script.specs.declared.line.ShareKind.TheVariants as rule
use Rattle.script.specs.declared.line.Statement.{Statement}
use Rattle.script.specs.declared.word.Word.{Word}
use Rattle.script.specs.Lines.{Spoken, band, board, book, listing, market, opening, quoted_of, quoted_with, quote_words, reading, share, spoken, statement_of, words_of}
use Rattle.script.proofs.Listing.{legs_back}

quoted_by : (s : Side) (m : Bool) (c p : ℕ) → quoted_of (quote_words (quoted_with c s p m)) ≡ Some (quoted_with c s p m)
quoted_by Buy true c p = refl
quoted_by Buy false c p = refl
quoted_by Sell true c p = refl
quoted_by Sell false c p = refl

quoted_back : (q : Quoted) → quoted_of (quote_words q) ≡ Some q
quoted_back q = quoted_by q.side q.customer q.component q.price

board_back : (n : BoardNotice) → statement_of (words_of (board n)) ≡ Some (board n)
board_back (Set q) = ap (λ o. option_map board (option_map Set o)) (quoted_back q)
board_back (Clear c Buy) = refl
board_back (Clear c Sell) = refl

book_back : (n : BookNotice) → statement_of (words_of (book n)) ≡ Some (book n)
book_back (Add n q) = ap (λ o. option_map book (option_map (Add n) o)) (quoted_back q)
book_back (Withdraw n) = refl

pub spoken_back : (s : Spoken) → statement_of (words_of s) ≡ Some s
spoken_back (market kind.Board) = refl
spoken_back (market kind.Book) = refl
spoken_back (band n) = refl
spoken_back (share rule.ProRata) = refl
spoken_back (share rule.FirstCome) = refl
spoken_back (listing ls) = ap (option_map listing) (legs_back ls)
spoken_back (opening n) = refl
spoken_back (board n) = board_back n
spoken_back (book n) = book_back n
spoken_back (reading n) = refl

pub speaking : {E : Type 0} (r : Result (Option Statement) E) (ws : List Word) → IfOk r (λ o. option_map spoken o ≡ statement_of ws) → (s : Spoken) → ws ≡ words_of s → IfOk r (λ o. option_map spoken o ≡ Some s)
speaking (Ok o) ws e s f = e ∙ (ap statement_of f ∙ spoken_back s)
speaking (Err x) ws e s f = tt
