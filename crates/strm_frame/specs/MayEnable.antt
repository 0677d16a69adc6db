-- When a queue may be enabled: the list of enabled queues has room for 14 (qenable(9F)).
use Rattle.std.specs.Prelude.{◌≡◌, ◌<◌, true, false, List, length}
use Rattle.strm_types.specs.declared.names.QueueName.{QueueName}
use Rattle.strm_types.specs.Names.{has_queues_at, is_enabled}

-- one that stands at a place with queues and isn't enabled finds fewer that are
abbrev pub MayEnable : List QueueName → QueueName → Type 0
MayEnable names name = has_queues_at name.place ≡ true → is_enabled name names ≡ false → length names < 14
