-- Plans, and the words that say them.
use Rattle.std.specs.Prelude.{ℕ, ◌≡◌, ◌<◌, ◌≤◌, ◌*◌, ◌==◌, if◌then◌else◌, List, [], length, slice_index_or, Option, None, Some}
use Rattle.std.specs.Borrow.{Bor}
use Rattle.strm_bench.specs.Numbers.{IsNumber, number_of}
use Rattle.strm_bench.specs.declared.plans.Act.{Act}
use Rattle.strm_bench.specs.declared.plans.Act.TheVariants.{Types, TypesEchoed, Keys, Shows, Messages, Winsizes, BandedMessages, Images, Restores, Cuts}
use Rattle.strm_bench.specs.declared.plans.Plan.{Plan}
use Rattle.strm_bench.specs.declared.plans.Round.{Round}
use Rattle.strm_bench.specs.declared.plans.Stack.{Stack}
use Rattle.strm_bench.specs.declared.plans.Stack.TheVariants.{Nothing, Lines, Raw}
use Rattle.strm_bench.specs.declared.plans.Store.{Store}
use Rattle.strm_bench.specs.declared.plans.Store.TheVariants.{Linked, Tables}
use Rattle.strm_bench.specs.declared.plans.Text.{Text}
use Rattle.strm_bench.specs.declared.plans.Text.TheVariants.{Letters, Escapes, Colours}

-- the words of a line
abbrev pub Words : Type 0
Words = List (Bor (List ℕ))

-- the bytes of a word, none past the end
abbrev pub word : Words → ℕ → List ℕ
word words i = (slice_index_or words i (record { ref_ptr = (0, 0); now = [] })).now

-- what a number says is done in a round
abbrev pub act_by : ℕ → Option Act
act_by n = if n == 0 then Some Types else (if n == 1 then Some TypesEchoed else (if n == 2 then Some Keys
    else (if n == 3 then Some Shows else (if n == 4 then Some Messages else (if n == 5 then Some Winsizes else (if n == 6 then Some BandedMessages
    else (if n == 7 then Some Images else (if n == 8 then Some Restores else (if n == 9 then Some Cuts else None)))))))))

-- what a number says stands on the slave's stream
abbrev pub stack_by : ℕ → Option Stack
stack_by n = if n == 0 then Some Nothing else (if n == 1 then Some Lines else (if n == 2 then Some Raw else None))

-- the text that a number says
abbrev pub text_by : ℕ → Option Text
text_by n = if n == 0 then Some Letters else (if n == 1 then Some Escapes else (if n == 2 then Some Colours else None))

-- the store that a number says
abbrev pub store_by : ℕ → Option Store
store_by n = if n == 0 then Some Linked else (if n == 1 then Some Tables else None)

-- the last six of thirteen words are numbers in the ranges of a round
pub record IsRound (words : Words) : Type 0 where
  pub act : IsNumber (word words 7)
  pub stack : IsNumber (word words 8)
  pub text : IsNumber (word words 9)
  pub line : IsNumber (word words 10)
  pub size : IsNumber (word words 11)
  pub asked : IsNumber (word words 12)
  pub known_act : number_of (word words 7) ≤ 9
  pub known_stack : number_of (word words 8) ≤ 2
  pub known_text : number_of (word words 9) ≤ 2
  pub small : number_of (word words 11) ≤ 4096

-- thirteen numbers in the ranges of a plan
pub record IsPlan (words : Words) : Type 0 where
  pub thirteen : length words ≡ 13
  pub pairs : IsNumber (word words 0)
  pub rounds : IsNumber (word words 1)
  pub standing : IsNumber (word words 2)
  pub blocks : IsNumber (word words 3)
  pub entries : IsNumber (word words 4)
  pub warm : IsNumber (word words 5)
  pub store : IsNumber (word words 6)
  pub round : IsRound words
  pub some_blocks : 0 < number_of (word words 3)
  pub few_blocks : number_of (word words 3) ≤ 65536
  pub warm_or_not : number_of (word words 5) ≤ 1
  pub known_store : number_of (word words 6) ≤ 1

-- a round has the numbers that the last six words spell
pub record SaysRound (words : Words) (round : Round) : Type 0 where
  pub act : Some round.act ≡ act_by (number_of (word words 7))
  pub stack : Some round.stack ≡ stack_by (number_of (word words 8))
  pub text : Some round.text ≡ text_by (number_of (word words 9))
  pub line : round.line ≡ number_of (word words 10)
  pub size : round.size ≡ number_of (word words 11)
  pub asked : round.asked ≡ number_of (word words 12)

-- a plan has the numbers that the words spell
pub record Says (words : Words) (plan : Plan) : Type 0 where
  pub pairs : plan.pairs ≡ number_of (word words 0)
  pub rounds : plan.rounds ≡ number_of (word words 1)
  pub standing : plan.standing ≡ number_of (word words 2)
  pub blocks : plan.blocks ≡ number_of (word words 3)
  pub entries : plan.entries ≡ number_of (word words 4)
  pub warm : plan.warm ≡ (number_of (word words 5) == 1)
  pub store : Some plan.store ≡ store_by (number_of (word words 6))
  pub round : SaysRound words plan.round

-- how many bytes the rounds of a plan ask for
abbrev pub bytes_asked : Plan → ℕ
bytes_asked plan = plan.pairs * ((if plan.warm then 2 else 1) * (plan.rounds * plan.round.asked))
