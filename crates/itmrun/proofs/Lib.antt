mod FailedOpens
