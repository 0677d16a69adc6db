-- What the module code_page does, over any cells: a byte that passes it becomes the one that a table of 256 bytes has in its place, the page, which
-- is all that such a module is set to (STREAMS Programming Guide, "Modules", "Put Procedures"; "Private Data").
use Rattle.std.specs.Prelude.{ℕ, ◌==◌, ◌&&◌, ◌%◌, Bool, true, false, if◌then◌else◌, List, [], ◌∷◌, length, map, slice_index_or}
use Rattle.std.specs.Prelude.{Option, None, Some, option_map}
use Rattle.strm_types.specs.declared.ioctls.Ioc.{Ioc}
use Rattle.strm_types.specs.declared.names.Way.{Way}
use Rattle.strm_types.specs.declared.names.Way.TheVariants.{Up, Down}
use Rattle.strm_types.specs.declared.spots.Spot.{Spot}
use Rattle.strm_types.specs.Acks.{ack_message, payload}
use Rattle.strm_types.specs.Cells.{Cells}
use Rattle.strm_types.specs.Commands.{is_asked}
use Rattle.strm_types.specs.Deliver.{Acted, onward}
use Rattle.strm_types.specs.Ioctls.{nak_message, read_ioc}
use Rattle.strm_types.specs.Message.{Message}
use Rattle.strm_types.specs.Owns.{Own}
use Rattle.strm_laws.specs.Behaviours.{passes_all}
use Rattle.code_page.specs.declared.TheConstants.{CODE_PAGE, SETPAGE}

-- there is one such module, and one as it is pushed is set to no page
abbrev pub knows_page : ℕ → Bool
knows_page n = n == CODE_PAGE

abbrev pub no_page : List ℕ
no_page = []

-- whether bytes are a page: one for each byte
abbrev pub is_page : List ℕ → Bool
is_page bytes = length bytes == 256

-- bytes as a module is set to them
abbrev pub page_of : List ℕ → List ℕ
page_of bytes = map (λ b. b % 256) bytes

-- a header of the command that sets the page, where it is asked
abbrev pub page_command : Bool → Option Ioc → Option Ioc
page_command asked None = None
page_command asked (Some ioc) = if asked && ioc.command == SETPAGE then Some ioc else None

module _ {C : Type 0} where
  -- the header of an M_IOCTL that asks such a module, on its way down (streamio(7I): I_STR)
  abbrev pub ours : Way → Message C → Option Ioc
  ours Up m = None
  ours Down m = page_command (is_asked m) (read_ioc m.plain)

  -- a cell with the byte that a page has in place of its own
  abbrev pub exchanged : Cells C → List ℕ → C → C
  exchanged cells page c = cells.mapped (slice_index_or page (cells.byte c) 0) c

  -- a message with those in its data part: M_DATA, and what M_PROTO and M_PCPROTO have beside their control part
  abbrev pub changed : Cells C → List ℕ → Message C → Message C
  changed cells page m = record m { body = option_map (map (exchanged cells page)) m.body }

  -- where a module is set to no page all passes as it is
  abbrev pub passed : Bool → Cells C → List ℕ → Message C → Message C
  passed true cells page m = changed cells page m
  passed false cells page m = m

  -- the answer to that M_IOCTL: it is obeyed where a page came with it, and refused else (M_IOCACK, M_IOCNAK)
  abbrev pub answered : Bool → Ioc → Spot → List ℕ → Own → Acted C Own
  answered true ioc here given x =
      record { state = record x { settings = page_of given }; notes = []; sent = onward Up here (ack_message ioc []) ∷ []; gone = [] }
  answered false ioc here given x = record { state = x; notes = []; sent = onward Up here (nak_message ioc) ∷ []; gone = [] }

  -- what is put at such a module, where it asks the module and where it doesn't
  abbrev pub page_puts : Option Ioc → Cells C → Spot → Message C → Own → Acted C Own
  page_puts None cells here m x = passes_all here (passed (is_page x.settings) cells x.settings m) x
  page_puts (Some ioc) cells here m x = answered (is_page (payload m.plain)) ioc here (payload m.plain) x
