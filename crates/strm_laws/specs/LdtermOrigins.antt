-- ldterm over other cells, as where the origins of cells are forgotten.
use Rattle.std.specs.Prelude.{map, option_map}
use Rattle.strm_laws.specs.Prelude.{Discipline, Stage, Between, Begun, Answered, discipline, map_message, map_acted, Serving, map_pair}
use Rattle.strm_types.specs.Ldterms.{Ldterm, by_itself, pair_of}

module _ {C D : Type 0} (f : C → D) where
  abbrev pub map_stage : Stage C → Stage D
  map_stage Between = Between
  map_stage (Begun started c) = Begun started (f c)
  map_stage (Answered echo) = Answered echo

  -- what is its own, and the module with its queues
  abbrev pub map_own : Ldterm C → Ldterm D
  map_own l = record {
    termios = l.termios;
    stopped = l.stopped;
    after_lnext = l.after_lnext;
    column = l.column;
    line = map f l.line;
    in_work = option_map (map_message f) l.in_work;
    gathered = map f l.gathered;
    echoing = l.echoing;
    stage = map_stage l.stage;
  }

  abbrev pub map_ldterm : Discipline C → Discipline D
  map_ldterm p = discipline (map_own (by_itself p)) (map_pair f (pair_of p))

  -- what a call of a service procedure does
  abbrev pub map_serving : {S T : Type 0} → (S → T) → Serving C S → Serving D T
  map_serving g t = record { acted = map_acted f g t.acted; bytes = t.bytes; again = t.again }
