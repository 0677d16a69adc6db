-- Which numbers the bytes of a base have, counted by hand in the order of an image.
use Rattle.strm_rows.proofs.Prelude.{ℕ, ◌≡◌, true, false, List, [], ◌∷◌, map, refl, Dir, MasterToSlave, SlaveToMaster, Open, new_book, Base, Made}
use Rattle.strm_rows.proofs.Prelude.{Tagged, Written, Message, cells_of, weight_of, no_fates, Up, Down, Standing, module_line, ldterm_stands, State}
use Rattle.strm_rows.proofs.Prelude.{Stream, opening, module_named, head_with, options, ordinary, proto, queue, urgent, fresh, no_own}
use Rattle.strm_types.specs.declared.names.ModuleName.TheVariants as names
use Rattle.strm_types.specs.Standings.{messages_at}
use Rattle.strm_laws.specs.Based.{based}
use Rattle.strm_laws.specs.Ledgers.{Balanced, base_count, is_booked}

-- On the master's side a message waits at the head and one at the driver. On the slave's an ldterm below a ptem has the line "ab", on its read queue
-- "c", and on its write queue an M_SETOPTS and "d"; there one waits at the head and one at the driver too.
abbrev end : List (Message ℕ) → List (Standing ℕ) → List (Message ℕ) → Stream ℕ
end head modules driver = record { opened = Open; head = head_with (queue head []) false; modules = modules; driver = record { queue = queue driver [] } }

abbrev line : Standing ℕ
line = ldterm_stands (record fresh { line = 97 ∷ 98 ∷ []; read_queue = queue (ordinary (99 ∷ []) ∷ []) []; write_queue = queue (options ∷ ordinary (100 ∷ []) ∷ []) [] })

abbrev base : State ℕ
base = record {
  ends = record { master = end (ordinary (65 ∷ 66 ∷ []) ∷ []) [] (proto ∷ []); slave = end (urgent ∷ []) (module_named no_own names.Ptem ∷ line ∷ []) (ordinary (101 ∷ 102 ∷ []) ∷ []) };
  locked = false;
  enabled = [];
  next_ioctl = 1;
  books = record { master = record { written = 20; made = 3 }; slave = new_book };
}

abbrev toward_slave : ℕ → ℕ → Tagged
toward_slave n byte = record { byte = byte; origin = Base MasterToSlave n }

abbrev toward_master : ℕ → ℕ → Tagged
toward_master n byte = record { byte = byte; origin = Base SlaveToMaster n }

abbrev cells : List (Message Tagged) → List (List Tagged)
cells ms = map cells_of ms

abbrev read_queues : Standing Tagged → List (List Tagged)
read_queues x = cells (messages_at Up x)

abbrev write_queues : Standing Tagged → List (List Tagged)
write_queues x = cells (messages_at Down x)

-- what goes to the slave: at the master's driver, then in the line, on the read queue and at the slave's head
pub masters-driver-is-first : cells (based base).ends.master.driver.queue.messages ≡ (toward_slave 0 1 ∷ toward_slave 1 2 ∷ toward_slave 2 3 ∷ toward_slave 3 4 ∷ toward_slave 4 5 ∷ []) ∷ []
unfolding cells_of weight_of
masters-driver-is-first = refl

pub line-is-behind-it : map module_line (based base).ends.slave.modules ≡ [] ∷ (toward_slave 5 97 ∷ toward_slave 6 98 ∷ []) ∷ []
unfolding cells_of weight_of
line-is-behind-it = refl

pub read-queue-is-behind-the-line : map read_queues (based base).ends.slave.modules ≡ [] ∷ ((toward_slave 7 99 ∷ []) ∷ []) ∷ []
unfolding cells_of weight_of
read-queue-is-behind-the-line = refl

pub slaves-head-is-last : cells (based base).ends.slave.head.queue.messages ≡ (toward_slave 8 9 ∷ []) ∷ []
unfolding cells_of weight_of
slaves-head-is-last = refl

-- what goes to the master: at its head, then on the write queue and at the slave's driver; the bytes of an M_SETOPTS have no numbers
pub masters-head-is-first : cells (based base).ends.master.head.queue.messages ≡ (toward_master 0 65 ∷ toward_master 1 66 ∷ []) ∷ []
unfolding cells_of weight_of
masters-head-is-first = refl

pub write-queue-is-behind-it : map write_queues (based base).ends.slave.modules ≡ [] ∷ ([] ∷ (toward_master 2 100 ∷ []) ∷ []) ∷ []
unfolding cells_of weight_of
write-queue-is-behind-it = refl

pub slaves-driver-is-last : cells (based base).ends.slave.driver.queue.messages ≡ (toward_master 3 101 ∷ toward_master 4 102 ∷ []) ∷ []
unfolding cells_of weight_of
slaves-driver-is-last = refl

-- how many there are, and which are booked where the journal has no entry
pub base-is-counted : base_count MasterToSlave base ∷ base_count SlaveToMaster base ∷ [] ≡ 9 ∷ 5 ∷ []
unfolding cells_of weight_of
base-is-counted = refl

pub base-is-booked : map (λ o. is_booked o base base) (Base MasterToSlave 8 ∷ Base MasterToSlave 9 ∷ Written MasterToSlave 19 ∷ Made MasterToSlave 2 ∷ []) ≡ true ∷ false ∷ false ∷ false ∷ []
unfolding cells_of weight_of
base-is-booked = refl

-- numbers of what is written go on behind the base's
abbrev written_on : State ℕ
written_on = record base { books = record { master = record { written = 22; made = 3 }; slave = new_book } }

pub written-goes-on : map (λ o. is_booked o base written_on) (Written MasterToSlave 19 ∷ Written MasterToSlave 20 ∷ Written MasterToSlave 21 ∷ Written MasterToSlave 22 ∷ []) ≡ false ∷ true ∷ true ∷ false ∷ []
written-goes-on = refl

-- nothing stands in a pair as it is made
pub opening-has-no-bytes : based opening ≡ opening
opening-has-no-bytes = refl

pub opening-balances : (dir : Dir) → Balanced dir opening no_fates
opening-balances MasterToSlave = record { rules = refl; agree = refl }
opening-balances SlaveToMaster = record { rules = refl; agree = refl }
