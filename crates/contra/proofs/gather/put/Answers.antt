use Rattle.ranked.specs.Contras.{contra_before}
use Rattle.contra.proofs.Gathering.{put_none, put_some, put_some_size}
use Rattle.contra.proofs.gather.put.Goals as goal

pub returns-in-Some-clause-after : goal.returns-in-Some-clause-after
returns-in-Some-clause-after c =
    put_some contra_before _ _ _ _ _ _ c.in-Some.is c.requires c.insert-put.ensures.answer c.insert-put.ensures.after

pub returns-in-Some-clause-size : goal.returns-in-Some-clause-size
returns-in-Some-clause-size c =
    put_some_size contra_before _ _ _ _ _ _ c.in-Some.is c.requires c.insert-put.ensures.answer c.insert-put.ensures.after

pub returns-in_default-clause-after : goal.returns-in_default-clause-after
returns-in_default-clause-after c = put_none _ _ _ _ c.in_default.is
