-- What a store holds between two batches.
use Rattle.store_trait.specs.Contents.{Content}
use Rattle.store_laws.specs.Soundness.{IsSound}
use Rattle.store_laws.specs.View.{look}
use Rattle.store_laws.specs.Alone.{IsAtRest}
use Rattle.store_laws.specs.Plain.{IsPlain}

-- Sound content of documents alone, in whose queues nobody has anything left to do.
pub record IsCalm (c : Content) : Type 0 where
  pub sound : IsSound c
  pub plain : IsPlain c
  pub rests : IsAtRest (look c)
