-- What was booked of a direction so far.
use Rattle.std.specs.Prelude.{ℕ, ◌+◌, ◌&&◌, Bool, nat_lt}
use Rattle.strm_types.specs.declared.books.Book.{Book}
use Rattle.strm_types.specs.declared.books.TheConstants.{BOOK_MAX}

-- a book in which nothing stands
abbrev pub new_book : Book
new_book = record { written = 0; made = 0 }

-- the book with more bytes written
abbrev pub with_written : ℕ → Book → Book
with_written count book = record book { written = book.written + count }

-- the book with more bytes made
abbrev pub with_made : ℕ → Book → Book
with_made count book = record book { made = book.made + count }

-- more may be written and made
abbrev pub has_room : Book → Bool
has_room book = nat_lt book.written BOOK_MAX && nat_lt book.made BOOK_MAX
