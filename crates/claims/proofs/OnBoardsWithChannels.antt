-- A reached machine keeps the rules of a profile, by which each fitted channel is in a place. Assumes nothing.
use Rattle.refusals.proofs.Rules.{kept_rules}
use Rattle.changes.proofs.SoundMachine.{sound_machine}
use Rattle.claims.specs.OnBoardsWithChannels.{OnBoardsWithChannels}

pub on_boards_with_channels : OnBoardsWithChannels
on_boards_with_channels k m r f =
    (kept_rules m.board.profile m.board.memory.store (sound_machine m r).starts_again).fitted_in_place k f.a_channel f.fitted
