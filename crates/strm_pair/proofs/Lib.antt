pub mod Prelude
pub mod Peeked
pub mod Idle
pub mod Leading
pub mod InHand
pub mod Sides
pub mod Becoming
pub mod KindsDo
pub mod MadeModules
pub mod ModuleTaken
pub mod Takings
pub mod Dropping
pub mod Puttings
pub mod StackTops
pub mod ShelfSteps
pub mod CallsStand
pub mod ModulePushed
pub mod Modes
pub mod PlaceCosts
pub mod PutSteps
pub mod ModuleSteps
pub mod NearestStays
pub mod NotesDone
pub mod StopsFew
pub mod ServeSteps
pub mod CallsOn
pub mod MovingOn
pub mod TurnSteps
mod NamedPlaces
mod ModuleTurns
pub mod ReadSteps
pub mod GetSteps
pub mod PutBooks
pub mod FreeBlocks
pub mod ModuleSums
pub mod Steps
pub mod Shown
pub mod DataLemmas
pub mod Sends
pub mod JournalLemmas
pub mod FewBytes
pub mod Runs
pub mod ChunkSteps
mod Refusing
mod Fresh
mod Tried
pub mod Balanced
mod WideQueues
mod PairImages
mod UsedBytes
mod BaseRows
pub mod ChainTexts
pub mod ListTexts
pub mod RestTexts
pub mod PairTexts
mod MadeRuns
mod TextMade
mod PutBehind
pub mod Refilled
pub mod FlowsSet
pub mod LdtermsMade
mod StacksMade
mod OnceMore
mod EndsMade
mod TextsTold
mod PairsMade
mod RestoredPairs
mod ImagesBack
pub mod Holding
pub mod OwnCalls
pub mod Coming
pub mod EnabledKnown
pub mod Enabling
pub mod DriverNoted
