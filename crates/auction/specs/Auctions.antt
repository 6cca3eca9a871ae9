use Rattle.terms.specs.declared.auction.AuctionRow.{AuctionRow}
use Rattle.auction.specs.declared.record.Auction.{Auction}

-- an auction is its row
abbrev pub row_of : Auction → AuctionRow
row_of a = a.row
