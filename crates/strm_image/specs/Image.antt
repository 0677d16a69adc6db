-- The image of a pair: the text of its plain state and of what has gone by each rule, and which of them have one.
use Rattle.std.specs.Prelude.{ℕ, ◌+◌, Bool, true, false, not, ◌&&◌, ◌||◌, ◌==◌, nat_lt, List, [], ◌∷◌, ◌++◌}
use Rattle.std.specs.List.{list_all, sum}
use Rattle.strm_image.specs.Prelude.{Book, Both, Dir, MasterToSlave, SlaveToMaster, Openness, Place, QueueName, Side, Way, Up, Down, RULES, get}
use Rattle.strm_image.specs.Prelude.{stands, has_service, have_queues, is_enabled, is_open, same_way, side_from, is_none_left, is_free, queued}
use Rattle.strm_image.specs.Prelude.{inline, Standing}
use Rattle.strm_image.specs.Prelude.{module_name, State, Stream, book, stream}
use Rattle.strm_types.specs.declared.names.Place.TheVariants as places
use Rattle.strm_image.specs.declared.versions.Version.{Version}
use Rattle.strm_image.specs.declared.versions.Version.TheVariants.{First, Second}
use Rattle.strm_image.specs.Codes.{flag, openness, place, side, version, way}
use Rattle.strm_image.specs.Format.{Format, byte, u32, u64, bytes_of, only, times, counted, chain, ◌then◌, made, tagged}
use Rattle.strm_image.specs.Messages.{any}
use Rattle.strm_image.specs.Streams.{Laid, laid}

-- ---- the enabled queues

abbrev pub name_of : Side × (Place × Way) → QueueName
name_of (s, (p, w)) = record { side = s; place = p; way = w }

abbrev pub name_parts : QueueName → Side × (Place × Way)
name_parts n = (n.side, (n.place, n.way))

unfoldable pub queue_name : Format QueueName
queue_name = made any name_of name_parts (side then (place then way))

-- a queue with a service procedure that isn't enabled before
unfoldable pub enabled_behind : List QueueName → Format QueueName
enabled_behind before = only (λ n. has_service n && not (is_enabled n before)) queue_name

abbrev pub next_enabled : QueueName → List QueueName → List QueueName
next_enabled n before = before ++ n ∷ []

unfoldable pub enabled : Format (List QueueName)
enabled = counted byte (chain next_enabled enabled_behind [])

-- ---- the ledgers

abbrev pub is_booked : ℕ → Bool
is_booked n = nat_lt n 9223372036854775808

-- what was written and made in a direction, and what has gone by each rule
abbrev pub AccountParts : Type 0
AccountParts = ℕ × (ℕ × List ℕ)

pub record Account : Type 0 where
  pub book : Book
  pub fates : List ℕ

abbrev pub account_of : AccountParts → Account
account_of (written, (made, fates)) = record { book = record { written = written; made = made }; fates = fates }

abbrev pub account_parts : Account → AccountParts
account_parts a = (a.book.written, (a.book.made, a.fates))

unfoldable pub rule_counts : Format (List ℕ)
rule_counts = times RULES u64

unfoldable pub account : Format Account
account = made any account_of account_parts (only is_booked u64 then (only is_booked u64 then rule_counts))

-- ---- what an image stands for

-- the plain state of a pair, and what has gone by each rule in each direction, by the side that writes there
pub record Imaged : Type 0 where
  pub state : State ℕ
  pub fates : Both (List ℕ)

abbrev pub stream_of : Openness → Laid → Stream ℕ
stream_of opened t = record { opened = opened; head = t.head; modules = t.modules; driver = record { queue = t.driver } }

abbrev pub laid_on : Stream ℕ → Laid
laid_on t = record { head = t.head; modules = t.modules; driver = t.driver.queue }

abbrev pub Parts : Type 0
Parts = Openness × (Openness × (Bool × (ℕ × (Laid × (Laid × (List QueueName × (Account × Account)))))))

abbrev pub imaged_of : Parts → Imaged
imaged_of (master, (slave, (locked, (next, (below_master, (below_slave, (names, (from_master, from_slave)))))))) = record {
  state = record {
    ends = record { master = stream_of master below_master; slave = stream_of slave below_slave };
    locked = locked;
    enabled = names;
    next_ioctl = next;
    books = record { master = from_master.book; slave = from_slave.book };
  };
  fates = record { master = from_master.fates; slave = from_slave.fates };
}

abbrev pub imaged_parts : Imaged → Parts
imaged_parts x = (
  x.state.ends.master.opened,
  (
    x.state.ends.slave.opened,
    (
      x.state.locked,
      (
        x.state.next_ioctl,
        (
          laid_on x.state.ends.master,
          (
            laid_on x.state.ends.slave,
            (
              x.state.enabled,
              (record { book = x.state.books.master; fates = x.fates.master }, record { book = x.state.books.slave; fates = x.fates.slave }),
            ),
          ),
        ),
      ),
    ),
  ),
)

abbrev pub is_number : ℕ → Bool
is_number n = nat_lt 0 n

-- a side that isn't open has no module, no signal, no ioctl under way and no message for its readers
abbrev pub is_quiet : Stream ℕ → Bool
is_quiet t = is_open t.opened || (is_none_left t.modules && (is_none_left t.head.signals && (is_free t.head.ioctl && is_none_left t.head.queue.messages)))

abbrev pub are_quiet : Imaged → Bool
are_quiet x = is_quiet x.state.ends.master && is_quiet x.state.ends.slave

-- A head has a read queue alone and a driver a write queue alone. The queues of a module that has any are there where it stands.
abbrev pub has_queue_at : Place → Way → List (Standing ℕ) → Bool
has_queue_at places.Head w ms = same_way w Up
has_queue_at (places.Module name) w ms = have_queues name && stands module_name name ms
has_queue_at places.Driver w ms = same_way w Down

abbrev pub is_there : State ℕ → QueueName → Bool
is_there s n = has_queue_at n.place n.way (stream n.side s).modules

abbrev pub are_there : Imaged → Bool
are_there x = list_all (is_there x.state) x.state.enabled

-- what was written and made is where the ledger says, or has gone
abbrev pub is_balanced : Dir → Imaged → Bool
is_balanced dir x = (book dir x.state).written + (book dir x.state).made == queued dir x.state + inline dir x.state + sum (get (side_from dir) x.fates)

abbrev pub are_balanced : Imaged → Bool
are_balanced x = is_balanced MasterToSlave x && is_balanced SlaveToMaster x

unfoldable pub body : Version → Format Imaged
body v = only are_balanced (only are_there (only are_quiet (made any imaged_of imaged_parts
    (openness then (openness then (flag then (only is_number u32 then (laid v false then (laid v true then (enabled then (account then account)))))))))))

-- ---- the image: a mark, the version, and the rest by it

abbrev pub mark : List ℕ
mark = 83 ∷ 84 ∷ 80 ∷ 73 ∷ []

abbrev pub same_bytes : List ℕ → List ℕ → Bool
same_bytes [] [] = true
same_bytes (a ∷ as') (b ∷ bs) = a == b && same_bytes as' bs
same_bytes _ _ = false

abbrev pub is_mark : List ℕ → Bool
is_mark bytes = same_bytes bytes mark

abbrev pub same_version : Version → Version → Bool
same_version First First = true
same_version Second Second = true
same_version _ _ = false

abbrev pub of_version : Version → Version × Imaged → Bool
of_version v x = same_version x.0 v

abbrev pub with_version : Version → Imaged → Version × Imaged
with_version v s = (v, s)

abbrev pub without_version : Version × Imaged → Imaged
without_version x = x.1

abbrev pub versioned : Version → Format (Version × Imaged)
versioned v = made (of_version v) (with_version v) without_version (body v)

abbrev pub version_of : Version × Imaged → Version
version_of x = x.0

abbrev pub with_mark : List ℕ × (Version × Imaged) → Version × Imaged
with_mark x = x.1

abbrev pub mark_parts : Version × Imaged → List ℕ × (Version × Imaged)
mark_parts x = (mark, x)

unfoldable pub image : Format (Version × Imaged)
image = made any with_mark mark_parts (only is_mark (bytes_of 4) then tagged version_of version versioned)
