use Rattle.p3_fs_core.specs.CountLaws.{count_width-enough, count_width-least, count_width-most}
use Rattle.p3_driver_core.proofs.counts.counts_take_the_least_width.Goals as goal

pub returns : goal.returns
returns c = record {
  enough = count_width-enough;
  least = count_width-least;
  most = count_width-most;
}
