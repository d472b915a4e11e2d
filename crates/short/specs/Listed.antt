-- What a short list shows.
use Rattle.std.specs.Prelude.{List}

-- its items, and what stands in the places behind them, of which no clause says anything
pub record Listed (T : Type 0) : Type 0 where
  pub items : List T
  pub rest : List T
