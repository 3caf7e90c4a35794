-- The table of worked figures, each worked out by hand, as facts about the definitions. Assumes nothing.
use Rattle.bbr.specs.Figures.{Figures as BbrTable}
use Rattle.new_reno.specs.Figures.{Figures as HalvingTable}
use Rattle.numbers.specs.Figures.{Figures}
use Rattle.figures.specs.FilterFigures.{FilterTable}
use Rattle.figures.specs.PacerFigures.{PacerTable}
use Rattle.figures.specs.RttFigures.{RttTable}

pub record Table : Type 0 where
  pub rtt : RttTable
  pub numbers : Figures
  pub filter : FilterTable
  pub pacer : PacerTable
  pub new_reno : HalvingTable
  pub bbr : BbrTable
