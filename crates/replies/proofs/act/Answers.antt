-- `replies::act` meets its contract: a command that sets leaves the text.
use Rattle.std.proofs.Common.{refl}
use Rattle.replies.specs.Does.{does}
use Rattle.replies.proofs.Serving.{sets}
use Rattle.replies.proofs.act.Goals as goal

pub returns-in-SetProfile : goal.returns-in-SetProfile
unfolding does
returns-in-SetProfile c = rw (c.in-Some.is, c.in-SetProfile.is) (sets c.gives-in-SetProfile.ensures c.kept.ensures c.set_profile.ensures refl refl)

pub returns-in-SetStore : goal.returns-in-SetStore
unfolding does
returns-in-SetStore c =
    rw (c.in-Some.is, c.in-SetStore.is)
    (sets c.gives-in-SetStore.ensures c.kept-in-SetStore.ensures c.set_store.ensures.value c.set_store.ensures.store_after refl)

pub returns-in-SetCounts : goal.returns-in-SetCounts
unfolding does
returns-in-SetCounts c = rw (c.in-Some.is, c.in-SetCounts.is) (sets c.gives-in-SetCounts.ensures c.kept-in-SetCounts.ensures c.set_counts.ensures refl refl)

pub returns-in-SetTime : goal.returns-in-SetTime
unfolding does
returns-in-SetTime c = rw (c.in-Some.is, c.in-SetTime.is) (sets c.gives-in-SetTime.ensures c.kept-in-SetTime.ensures c.set_time.ensures refl refl)

pub returns-in-SetBuffer : goal.returns-in-SetBuffer
unfolding does
returns-in-SetBuffer c =
    rw (c.in-Some.is, c.in-SetBuffer.is)
    (sets c.gives-in-SetBuffer.ensures c.kept-in-SetBuffer.ensures c.set_buffer.ensures.value refl c.set_buffer.ensures.out_after)
