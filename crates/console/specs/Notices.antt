-- The statements that are notices, to a board or to a depth book.
use Rattle.std.specs.Prelude.{Some, None, Option}
use Rattle.market.specs.declared.board.BoardNotice.{BoardNotice}
use Rattle.market.specs.declared.book.BookNotice.{BookNotice}
use Rattle.script.specs.Lines.{Spoken, market, band, share, listing, opening, board, book, reading}

abbrev pub board_notice : Spoken → Option BoardNotice
board_notice (market k) = None
board_notice (band n) = None
board_notice (share k) = None
board_notice (listing ls) = None
board_notice (opening n) = None
board_notice (board n) = Some n
board_notice (book n) = None
board_notice (reading n) = None

abbrev pub book_notice : Spoken → Option BookNotice
book_notice (market k) = None
book_notice (band n) = None
book_notice (share k) = None
book_notice (listing ls) = None
book_notice (opening n) = None
book_notice (board n) = None
book_notice (book n) = Some n
book_notice (reading n) = None
