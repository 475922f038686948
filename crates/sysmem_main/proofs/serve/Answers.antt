use Rattle.std.proofs.Common.{inr}
use Rattle.sysmem_main.proofs.serve.Goals as goal

-- the request that was read is the one that the matches ask for
pub returns-in-Some : goal.returns-in-Some
returns-in-Some g c =
    rw c.in-Ok.is (inr (record {
      request = c.in-Some.request;
      asked = record {
        pages = c.in-Some.ensures.pages;
        task = c.in-Some.ensures.task;
        format = c.in-Some.ensures.format;
        until = c.in-Some.ensures.until;
        failures = c.in-Some.ensures.failures;
        summary = c.in-Some.ensures.summary;
        record_asked = c.in-Some.ensures.«record»;
        patience = c.in-Some.ensures.patience;
        search = c.in-Some.ensures.search;
        certified = c.in-Some.ensures.certified;
        listed = c.in-Some.ensures.listed;
        vanishing = c.in-Some.ensures.vanishing;
        file = c.in-Some.ensures.file;
      };
      read = c.read.ensures;
    }))
